use Rattle.std.proofs.Common.{◌≡◌, ◌+◌, ap, arith, max, subst}
use Rattle.literal_leftmost.specs.Inside.Backward.{back_tables_by}
use Rattle.literal_leftmost.specs.Inside.Leftmost.{owed_by}
use Rattle.literal_leftmost.specs.Inside.Trail.{AreTrailed}
use Rattle.literal_leftmost.specs.declared.backward.Marks.{Marks}
use Rattle.literal_leftmost.proofs.lemmas.Leftmost.{ahead_few, owed_few}
use Rattle.literal_leftmost.proofs.lemmas.Passes.{block_scanned, paid_on}
use Rattle.literal_leftmost.proofs.backward.Backward.begin_block.Goals as goal

pub returns-then-at-span-clause-most : goal.returns-then-at-span-clause-most
returns-then-at-span-clause-most c =
    let pass = c.pass_over-at.ensures in
    omega (
      arith,
      pass.most,
      ap (λ (m : Marks). m.known) c.no_marks.ensures,
      paid_on c.args.self.now.table.longest c.args.from c.pass_over-at.result pass.inside.0,
    )

pub returns-then-at-span-clause-all : goal.returns-then-at-span-clause-all
returns-then-at-span-clause-all c =
    let pass = c.pass_over-at.ensures in
    omega (arith, pass.most, paid_on c.args.self.now.table.longest c.args.from c.args.span.end (omega arith))

pub returns-in_err-marks-clause-all : goal.returns-in_err-marks-clause-all
returns-in_err-marks-clause-all c =
    let pass = c.pass_over-at.ensures in
    omega (
      arith,
      pass.ahead,
      ahead_few c.scan_in.result,
      c.in_err-marks.ensures.most,
      paid_on c.args.self.now.table.longest c.args.from c.args.span.end (omega arith),
    )

pub returns-then-at-from-clause-most : goal.returns-then-at-from-clause-most
returns-then-at-from-clause-most c =
    let pass = c.pass_over-at.ensures in
    let told = c.in_ok-marks.ensures in
    omega (
      arith,
      pass.ahead,
      ahead_few c.scan_in.result,
      told.most,
      told.placed.2,
      paid_on c.args.self.now.table.longest c.args.from (c.pass_over-at.result + 1) (omega (arith, pass.inside.0)),
    )

pub returns-then-at-from-clause-all : goal.returns-then-at-from-clause-all
returns-then-at-from-clause-all c =
    let pass = c.pass_over-at.ensures in
    omega (
      arith,
      pass.ahead,
      ahead_few c.scan_in.result,
      c.in_ok-marks.ensures.most,
      paid_on c.args.self.now.table.longest c.args.from c.args.span.end (omega arith),
    )

pub returns-in_err-leave_block-clause-all : goal.returns-in_err-leave_block-clause-all
returns-in_err-leave_block-clause-all c =
    let pass = c.pass_over-at.ensures in
    let at = c.pass_over-at.result in
    let longest = c.args.self.now.table.longest in
    let told = c.in_err-leave_block.ensures in
    let end = c.leave_block.new.trail.block.end in
    let all = block_scanned longest c.args.from at end c.args.span.end at (owed_by c.scan_in.result)
    c.args.tally.now.scanned c.pass_over-at.new.tally.scanned c.leave_block.new.tally.scanned
    c.leave_block.new.tally.scanned pass.inside.0 (owed_few c.scan_in.result) pass.most told.most (omega arith) in
    omega (arith, all, paid_on longest end c.args.span.end told.inside, pass.inside.1)

pub returns-in_err-marks-2-clause-all : goal.returns-in_err-marks-2-clause-all
returns-in_err-marks-2-clause-all c =
    let pass = c.pass_over-at.ensures in
    let at = c.pass_over-at.result in
    let longest = c.args.self.now.table.longest in
    let told = c.in_ok-leave_block.ensures in
    let end = c.leave_block.new.trail.block.end in
    let all = block_scanned longest c.args.from at end c.args.span.end end (owed_by c.scan_in.result)
    c.args.tally.now.scanned c.pass_over-at.new.tally.scanned c.leave_block.new.tally.scanned
    c.mark_on.new.tally.scanned pass.inside.0 (owed_few c.scan_in.result) pass.most told.most
    (omega (arith, told.start, c.in_err-marks-2.ensures.far)) in
    omega (arith, all, paid_on longest end c.args.span.end told.inside, told.inside)

pub returns-clause-trailed : goal.returns-clause-trailed
returns-clause-trailed c = λ search is.
    let told = c.in_ok-marks-2.ensures.marked search is (c.in_ok-leave_block.ensures.trail search is) in
    let ahead : max c.pass_over-at.result c.in_ok-marks-2.field-0.first ≡ c.max-2.result =
    omega (arith, c.max-2.ensures) in
    subst (λ n. AreTrailed (back_tables_by search c.args.self.now) c.args.haystack.now c.args.span n
    c.mark_on.new.trail c.in_ok-marks-2.field-0) ahead told.1

pub returns-clause-most : goal.returns-clause-most
returns-clause-most c =
    let pass = c.pass_over-at.ensures in
    let at = c.pass_over-at.result in
    let told = c.in_ok-leave_block.ensures in
    let marks = c.in_ok-marks-2.ensures in
    let most = block_scanned c.args.self.now.table.longest c.args.from at c.leave_block.new.trail.block.end
    c.args.span.end c.in_ok-marks-2.field-0.known (owed_by c.scan_in.result) c.args.tally.now.scanned
    c.pass_over-at.new.tally.scanned c.leave_block.new.tally.scanned c.mark_on.new.tally.scanned pass.inside.0
    (owed_few c.scan_in.result) pass.most told.most (omega (arith, told.start, marks.most)) in
    rw marks.block most

pub returns-clause-all : goal.returns-clause-all
returns-clause-all c =
    let told = c.in_ok-leave_block.ensures in
    let marks = c.in_ok-marks-2.ensures in
    let most = rw marks.block at (returns-clause-most c) in
    omega (
      arith,
      most,
      marks.placed.inside,
      told.inside,
      paid_on c.args.self.now.table.longest c.leave_block.new.trail.block.end c.args.span.end told.inside,
    )
