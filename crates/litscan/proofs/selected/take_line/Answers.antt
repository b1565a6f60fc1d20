use Rattle.std.proofs.Common.{◌∙◌, sym, []}
use Rattle.std.proofs.KnownBytes.{Appends-nil}
use Rattle.std.proofs.lemmas.Result.{IfOk-weaker}
use Rattle.litscan.specs.Printed.{printed_matches}
use Rattle.litscan.proofs.lemmas.Printing.{counts_once, prints_matches, prints_nothing, prints_whole}
use Rattle.litscan.proofs.selected.take_line.Goals as goal

pub returns-then-prints_nothing-clause-printed : goal.returns-then-prints_nothing-clause-printed
returns-then-prints_nothing-clause-printed g c = (
  [],
  Appends-nil _,
  prints_nothing c.args.search.now c.args.options c.args.name.now c.args.number c.args.offset c.args.line.now
      (sym c.prints_nothing.ensures ∙ c.if-prints_nothing.true),
)

pub returns-then-options-clause-counted : goal.returns-then-options-clause-counted
returns-then-options-clause-counted g c =
    IfOk-weaker c.print_matches.result _ _
    (λ count found.
    counts_once c.args.search.now c.args.options c.args.name.now c.args.line.now found.0 count
    (sym c.prints_nothing.ensures ∙ c.if-prints_nothing.false) c.if-options.true found.1 found.3)
    c.print_matches.ensures.printed

pub returns-then-options-clause-printed : goal.returns-then-options-clause-printed
returns-then-options-clause-printed g c =
    let line = c.args.line.now in
    IfOk-weaker c.print_matches.result _ _
    (λ count found. (
      printed_matches c.args.options c.args.name.now c.args.number c.args.offset line found.0,
      found.2,
      prints_matches c.args.search.now c.args.options c.args.name.now c.args.number c.args.offset line found.0
          (sym c.prints_nothing.ensures ∙ c.if-prints_nothing.false) c.if-options.true found.1,
    ))
    c.print_matches.ensures.printed

pub returns-clause-printed : goal.returns-clause-printed
returns-clause-printed g c =
    let whole = c.in_ok-print_line.ensures.printed in (
      whole.0,
      whole.1,
      prints_whole c.args.search.now c.args.options c.args.name.now c.args.number c.args.offset c.args.line.now whole.0
          (sym c.prints_nothing.ensures ∙ c.if-prints_nothing.false) c.if-options.false
          (sym c.counts-2.ensures ∙ c.if-not-counts.false) whole.2,
    )
