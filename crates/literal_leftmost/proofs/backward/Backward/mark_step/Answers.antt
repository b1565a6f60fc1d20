use Rattle.std.proofs.Common.{◌+◌, ◌*◌, ap, arith, get_or, max, min, refl, subst, sym}
use Rattle.literal_base.specs.Counts.{Counts}
use Rattle.literal_leftmost.specs.Inside.Backward.{AreMarked, NoneFrom, back_tables_by}
use Rattle.literal_leftmost.specs.declared.backward.Marks.{Marks}
use Rattle.literal_leftmost.proofs.lemmas.Trail.{lane_of_cell, none_join}
use Rattle.literal_leftmost.proofs.backward.Backward.mark_step.Goals as goal

pub returns-then-row-limit-clause-marked : goal.returns-then-row-limit-clause-marked
returns-then-row-limit-clause-marked c = λ search is are.
    let so_far = c.loop-at.invariant in
    let test = c.loop-at-test.true in
    let start = c.args.block.start + 512 * c.loop-at.i in
    let lane = are.lane c.loop-at.i (min (start + 512) c.args.block.end) (omega arith)
    (omega (arith, so_far.begun test, test)) refl in
    let row = lane.stands.fits in
    absurd (omega (
      arith,
      row,
      c.in_ok-limit.ensures,
      c.if-row-limit.true,
      c.if-cell-ge-ENDS.true,
      c.type_inv.cells c.loop-at.i,
    ))

pub returns-then-row-limit-clause-others : goal.returns-then-row-limit-clause-others
returns-then-row-limit-clause-others c = let counts = c.loop-at.invariant.counts in grind arith

pub returns-then-row-limit-clause-far : goal.returns-then-row-limit-clause-far
returns-then-row-limit-clause-far c =
    omega (arith, ap (λ (t : Counts). t.scanned) c.loop-at.invariant.counts, c.requires.inside)

pub returns-in_err-mark_part-clause-marked : goal.returns-in_err-mark_part-clause-marked
returns-in_err-mark_part-clause-marked c = λ search is are.
    let so_far = c.loop-at.invariant in
    let test = c.loop-at-test.true in
    let start = c.args.block.start + 512 * c.loop-at.i in
    let to = start + c.min.result in
    let lane = are.lane c.loop-at.i to (omega arith) (omega (arith, so_far.begun test, test))
    (omega (arith, c.min.ensures, so_far.begun test, test)) in
    absurd (c.in_err-mark_part.ensures.marks search is c.args.block.end
    (omega (arith, c.min.ensures, so_far.begun test, test))
    (lane_of_cell (back_tables_by search c.args.self.now) c.args.haystack.now c.args.span c.args.block.end to
    (get_or c.args.cells.now c.loop-at.i 0) (omega (arith, c.if-cell-ge-ENDS.true))
    (omega (arith, c.type_inv.cells c.loop-at.i)) lane))

pub returns-in_err-mark_part-clause-others : goal.returns-in_err-mark_part-clause-others
returns-in_err-mark_part-clause-others c =
    let counts = c.loop-at.invariant.counts in let others = c.in_err-mark_part.ensures.others in grind arith

pub returns-in_err-mark_part-clause-far : goal.returns-in_err-mark_part-clause-far
returns-in_err-mark_part-clause-far c =
    let so_far = c.loop-at.invariant in
    let test = c.loop-at-test.true in
    omega (
      arith,
      ap (λ (t : Counts). t.scanned) so_far.counts,
      c.in_err-mark_part.ensures.most,
      c.min.ensures,
      so_far.after,
      so_far.begun test,
      test,
    )

pub returns-then-cell-ge-ENDS-clause-marked : goal.returns-then-cell-ge-ENDS-clause-marked
returns-then-cell-ge-ENDS-clause-marked c = λ search is are.
    let so_far = c.loop-at.invariant in
    let test = c.loop-at-test.true in
    let start = c.args.block.start + 512 * c.loop-at.i in
    let to = start + c.min.result in
    let lane = are.lane c.loop-at.i to (omega arith) (omega (arith, so_far.begun test, test))
    (omega (arith, c.min.ensures, so_far.begun test, test)) in (
      λ k after before. so_far.none search is are k after (omega (arith, before, so_far.after)),
      record {
        marks = λ k after before. c.in_ok-mark_part.ensures.marks search is c.args.block.end
            (omega (arith, c.min.ensures, so_far.begun test, test))
            (lane_of_cell (back_tables_by search c.args.self.now) c.args.haystack.now c.args.span c.args.block.end to
            (get_or c.args.cells.now c.loop-at.i 0) (omega (arith, c.if-cell-ge-ENDS.true))
            (omega (arith, c.type_inv.cells c.loop-at.i)) lane) k (omega (arith, after)) before;
        none = λ k after upto before. absurd (omega (arith, upto, before));
      },
    )

pub returns-then-cell-ge-ENDS-clause-others : goal.returns-then-cell-ge-ENDS-clause-others
returns-then-cell-ge-ENDS-clause-others c =
    let counts = c.loop-at.invariant.counts in let others = c.in_ok-mark_part.ensures.others in grind arith

pub returns-then-cell-ge-ENDS-clause-most : goal.returns-then-cell-ge-ENDS-clause-most
returns-then-cell-ge-ENDS-clause-most c =
    let so_far = c.loop-at.invariant in
    omega (arith, ap (λ (t : Counts). t.scanned) so_far.counts, c.in_ok-mark_part.ensures.most, so_far.after)

pub returns-then-cell-ge-ENDS-clause-far : goal.returns-then-cell-ge-ENDS-clause-far
returns-then-cell-ge-ENDS-clause-far c =
    let so_far = c.loop-at.invariant in
    let test = c.loop-at-test.true in
    omega (
      arith,
      ap (λ (t : Counts). t.scanned) so_far.counts,
      c.in_ok-mark_part.ensures.most,
      c.min.ensures,
      so_far.after,
      so_far.begun test,
      test,
    )

pub loop-at-preserved : goal.loop-at-preserved
loop-at-preserved c =
    let so_far = c.loop-at.invariant in
    let test = c.loop-at-test.true in
    let begun = so_far.begun test in
    let within = so_far.within test in
    let start = c.args.block.start + 512 * c.loop-at.i in
    let to = start + c.min.result in
    record {
      after = omega (arith, c.min.ensures, so_far.after, within, test);
      inside = omega (arith, c.min.ensures, begun, test);
      begun = λ more. omega (arith, c.min.ensures, begun, test, more);
      within = λ more. omega (arith, c.min.ensures, begun, test, more);
      few = omega (arith, c.min.ensures, begun, test);
      counts = so_far.counts;
      none = λ search is are. none_join (back_tables_by search c.args.self.now) c.args.haystack.now c.args.span.end
          c.args.from c.loop-at.at start to begun (so_far.none search is are)
          (are.none c.loop-at.i to (omega arith) (omega (arith, begun, test))
          (omega (arith, c.min.ensures, begun, test)) (omega (arith, c.if-cell-ge-ENDS.false)));
    }

pub returns-clause-marked : goal.returns-clause-marked
returns-clause-marked c = λ search is are.
    let p = back_tables_by search c.args.self.now in
    let span = c.args.span in
    subst (λ (m : Marks). NoneFrom p c.args.haystack.now span.end c.args.from (max c.args.from m.first)
    × AreMarked p c.args.haystack.now span (max c.args.from m.first) c.loop-at.numbers m) (sym c.no_marks.ensures) (
      λ k after before. c.loop-at.invariant.none search is are k after
          (omega (arith, before, c.loop-at.invariant.after)),
      record {
        marks = λ k after before. absurd (omega (arith, after, before));
        none = λ k after upto before. absurd (omega (arith, after, before));
      },
    )

pub returns-clause-others : goal.returns-clause-others
returns-clause-others c = let counts = c.loop-at.invariant.counts in grind arith

pub returns-clause-most : goal.returns-clause-most
returns-clause-most c =
    omega (
      arith,
      ap (λ (t : Counts). t.scanned) c.loop-at.invariant.counts,
      c.loop-at.invariant.after,
      ap (λ (m : Marks). m.known) c.no_marks.ensures,
    )

pub returns-clause-far : goal.returns-clause-far
returns-clause-far c =
    omega (arith, ap (λ (t : Counts). t.scanned) c.loop-at.invariant.counts, c.requires.inside)
