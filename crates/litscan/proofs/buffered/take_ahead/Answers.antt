use Rattle.std.proofs.Common.{[], false, subst, sym}
use Rattle.std.proofs.KnownBytes.{Consumes-nil}
use Rattle.litscan.specs.Inside.Passed.{TakesLines}
use Rattle.litscan.proofs.lemmas.Passing.{nothing_taken}
use Rattle.litscan.proofs.buffered.take_ahead.Goals as goal

pub returns-then-not-passes_others-clause-takes : goal.returns-then-not-passes_others-clause-takes
returns-then-not-passes_others-clause-takes g c =
    let written = g.W.Write.contents c.args.writer.now.inner in (
      [],
      Consumes-nil _,
      subst (λ a. TakesLines c.args.search.now c.args.options c.args.name.now c.args.lines c.args.offset a [] written
          written) (sym c.none.ensures)
          (nothing_taken c.args.search.now c.args.options c.args.name.now c.args.lines c.args.offset written false
          c.ranges.offset.fits),
    )
