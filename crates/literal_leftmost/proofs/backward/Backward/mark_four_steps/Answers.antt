use Rattle.std.proofs.Common.{◌+◌, ◌-◌, ◌*◌, ◌/◌, ◌^◌, ◌∙◌, arith, refl, subst, sym}
use Rattle.std.proofs.lemmas.Bool.{false≢true}
use Rattle.literal_leftmost.specs.Inside.Backward.{IsMark, back_tables_by}
use Rattle.literal_leftmost.specs.Inside.Leftmost.{HaveRows}
use Rattle.literal_leftmost.proofs.lemmas.Trail.{none_join}
use Rattle.literal_leftmost.proofs.lemmas.TrailInFour.{lanes_in_four, none_after, none_in_four, rows_of_lanes}
use Rattle.literal_leftmost.proofs.backward.Backward.mark_four_steps.Goals as goal

pub returns-then-not-are_rows-2-clause-marked : goal.returns-then-not-are_rows-2-clause-marked
returns-then-not-are_rows-2-clause-marked c = λ search is are.
    let start = c.args.block.start in
    let i = c.loop-at.i in
    let at = start + 512 * i in
    let so_far = c.loop-at.invariant in
    let test = c.loop-at-test.true in
    let told = c.in_ok-limit.ensures in
    let lanes = lanes_in_four (back_tables_by search c.args.self.now) c.args.haystack.now c.args.span start
    ((c.args.block.end - start) / 128) i at c.args.cells.now refl
    (omega (arith, c.requires.whole, so_far.begun test, test)) are c.four_cells-codes.result c.rows-lanes.result
    c.four_cells-codes.ensures c.rows-lanes.ensures in
    let rows = rows_of_lanes c.args.self.now search c.args.haystack.now c.args.span at 128 128 c.in_ok-limit.limit
    c.four_cells-codes.result c.rows-lanes.result (record { some = told.0; is = told.2; fits = told.3 })
    c.rows-lanes.ensures lanes in
    false≢true (sym c.if-not-are_rows-2.true ∙ c.are_rows-then-not-are_rows.ensures.1 rows)

pub returns-in_err-mark_parts-clause-marked : goal.returns-in_err-mark_parts-clause-marked
returns-in_err-mark_parts-clause-marked c = λ search is are.
    let start = c.args.block.start in
    let i = c.loop-at.i in
    let at = start + 512 * i in
    let so_far = c.loop-at.invariant in
    let test = c.loop-at-test.true in
    let tables = back_tables_by search c.args.self.now in
    let lanes = lanes_in_four tables c.args.haystack.now c.args.span start
    ((c.args.block.end - start) / 128) i at c.args.cells.now refl
    (omega (arith, c.requires.whole, so_far.begun test, test)) are c.four_cells-codes.result c.rows-lanes.result
    c.four_cells-codes.ensures c.rows-lanes.ensures in
    absurd (c.in_err-mark_parts.ensures.marks search is lanes
    (none_after (IsMark tables c.args.haystack.now c.args.span.end) c.loop-at.numbers at 128))

pub returns-then-not-are_rows-clause-marked : goal.returns-then-not-are_rows-clause-marked
returns-then-not-are_rows-clause-marked c = λ search is are.
    let start = c.args.block.start in
    let i = c.loop-at.i in
    let at = start + 512 * i in
    let so_far = c.loop-at.invariant in
    let test = c.loop-at-test.true in
    let tables = back_tables_by search c.args.self.now in
    let lanes = lanes_in_four tables c.args.haystack.now c.args.span start
    ((c.args.block.end - start) / 128) i at c.args.cells.now refl
    (omega (arith, c.requires.whole, so_far.begun test, test)) are c.four_cells-codes.result c.rows-lanes.result
    c.four_cells-codes.ensures c.rows-lanes.ensures in
    let marks = c.in_ok-mark_parts.ensures.marks search is lanes
    (none_after (IsMark tables c.args.haystack.now c.args.span.end) c.loop-at.numbers at 128) in (
      λ k after before. so_far.none search is are k after (omega (arith, before, so_far.begun test)),
      record {
        marks = λ k after before. marks k (omega (arith, after)) (omega (arith, before));
        none = λ k after upto before. absurd (omega (arith, upto, before));
      },
    )

pub loop-at-preserved : goal.loop-at-preserved
loop-at-preserved c =
    let so_far = c.loop-at.invariant in
    let test = c.loop-at-test.true in
    let begun = so_far.begun test in
    let within = so_far.within test in
    let start = c.args.block.start in
    let i = c.loop-at.i in
    let haystack = c.args.haystack.now in
    let small = subst (HaveRows (2 ^ 31)) c.four_cells-codes.ensures (c.are_rows.ensures.0 c.if-not-are_rows.false) in
    record {
      after = omega (arith, so_far.after, within);
      inside = omega (arith, c.requires.whole, begun, test);
      begun = λ more. omega arith;
      within = λ more. omega arith;
      few = omega (arith, so_far.few);
      counts = so_far.counts;
      none = λ search is are.
          let tables = back_tables_by search c.args.self.now in
          none_join tables haystack c.args.span.end c.args.from c.loop-at.at (start + 512 * i) (start + 512 * i + 512)
          begun (so_far.none search is are)
          (none_in_four tables haystack c.args.span start ((c.args.block.end - start) / 128) i (start + 512 * i)
          c.args.cells.now refl (omega (arith, c.requires.whole, begun, test)) are small);
    }
