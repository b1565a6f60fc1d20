use Rattle.std.proofs.Common.{◌∙◌, Bool, refl, subst, sym}
use Rattle.std.proofs.lemmas.Result.{on_ok_weaker}
use Rattle.litscan.specs.Printed.{PrintsWhole, printed_part}
use Rattle.litscan.proofs.printing.print_line.Goals as goal

pub returns-then-is_marked-clause-printed : goal.returns-then-is_marked-clause-printed
returns-then-is_marked-clause-printed g c =
    on_ok_weaker c.print_with_matches.result
    (λ printed. (
      printed.0,
      printed.1,
      subst (λ (b : Bool). PrintsWhole b c.args.search.now c.args.options c.args.name.now c.args.number c.args.offset
          c.args.line.now printed.0) (sym (sym c.is_marked.ensures ∙ c.if-is_marked.true)) printed.2,
    ))
    c.print_with_matches.ensures.printed

pub returns-clause-printed : goal.returns-clause-printed
returns-clause-printed g c =
    let line = c.args.line.now in
    let part = printed_part c.args.options c.args.name.now c.args.number c.args.offset line line in
    on_ok_weaker c.print_part.result
    (λ written. (
      part,
      written,
      subst (λ (b : Bool). PrintsWhole b c.args.search.now c.args.options c.args.name.now c.args.number c.args.offset
          line part) (sym (sym c.is_marked.ensures ∙ c.if-is_marked.false)) refl,
    ))
    c.print_part.ensures.printed
