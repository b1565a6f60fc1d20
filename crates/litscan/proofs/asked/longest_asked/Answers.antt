use Rattle.std.proofs.Common.{◌≡◌, ◌∙◌, ap, arith, false, refl, sym, true}
use Rattle.literal_base.specs.declared.search.Span.{Span}
use Rattle.litscan.specs.Asked.{is_asked}
use Rattle.litscan.proofs.lemmas.Asked.{asked_below, asks_alone, first_if_asked}
use Rattle.litscan.proofs.asked.longest_asked.Goals as goal

pub returns-then-is_asked-clause-first : goal.returns-then-is_asked-clause-first
returns-then-is_asked-clause-first c =
    let asked : is_asked c.args.options c.args.line.now c.args.found.start c.args.found.end ≡ true =
    ap (λ (s : Span). is_asked c.args.options c.args.line.now s.start s.end) (sym c.span.ensures.span)
    ∙ sym c.is_asked.ensures ∙ c.if-is_asked.true in (
      refl,
      first_if_asked c.args.search.now c.args.options c.args.line.now c.requires.longest c.requires.here asked,
    )

pub returns-clause-first : goal.returns-clause-first
returns-clause-first c =
    let other : is_asked c.args.options c.args.line.now c.args.found.start c.args.found.end ≡ false =
    ap (λ (s : Span). is_asked c.args.options c.args.line.now s.start s.end) (sym c.span.ensures.span)
    ∙ sym c.is_asked.ensures ∙ c.if-is_asked.false in
    asked_below c.args.search.now c.args.options c.args.line.now _ _ c.asked_at.result c.requires.longest
    c.requires.here other c.start.ensures.start (omega (arith, c.end.ensures.end, c.requires.not_empty))
    c.asked_at.ensures.first

pub asked_at-requires-clause-alone : goal.asked_at-requires-clause-alone
asked_at-requires-clause-alone c =
    let other : is_asked c.args.options c.args.line.now c.args.found.start c.args.found.end ≡ false =
    ap (λ (s : Span). is_asked c.args.options c.args.line.now s.start s.end) (sym c.span.ensures.span)
    ∙ sym c.is_asked.ensures ∙ c.if-is_asked.false in (
      c.requires.part,
      asks_alone c.args.search.now c.args.options c.args.line.now c.args.found.start c.args.found.end
          c.requires.part other,
    )
