use Rattle.std.proofs.Common.{◌+◌, ◌*◌, subst, sym}
use Rattle.std.specs.Result.{IsOkAnd}
use Rattle.literal_leftmost.specs.Inside.Backward.{AreMarks, back_tables_by}
use Rattle.literal_leftmost.specs.Inside.Leftmost.{AreLanes, AreMarksAfter}
use Rattle.literal_leftmost.proofs.backward.Backward.mark_in_four.Goals as goal

pub returns-then-part-eq-MARKED-clause-marks : goal.returns-then-part-eq-MARKED-clause-marks
returns-then-part-eq-MARKED-clause-marks c = λ search is.
    let tables = back_tables_by search c.args.self.now in
    let haystack = c.args.haystack.now in
    let end = c.args.span.end in
    subst (λ n. AreLanes tables haystack c.args.span c.args.at n c.args.left c.args.lanes
    → AreMarksAfter tables haystack end c.args.marks.now c.args.at n c.args.left
    → IsOkAnd c.mark_parts.result (λ _. AreMarks tables haystack end c.mark_parts.new.marks c.args.at c.args.at
    (c.args.at + 4 * n))) (sym c.if-part-eq-MARKED.true) (c.mark_parts.ensures.marks search is)
