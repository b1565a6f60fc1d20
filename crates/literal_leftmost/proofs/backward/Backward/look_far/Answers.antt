use Rattle.std.proofs.Common.{Err, IfOk, Ok, Result, ◌+◌, ◌-◌, ◌*◌, ◌≤◌, ℕ, arith}
use Rattle.literal_rows.specs.declared.damaged.Damaged.{Damaged}
use Rattle.literal_leftmost.proofs.lemmas.Passes.{paid_on}
use Rattle.literal_leftmost.proofs.backward.Backward.look_far.Goals as goal

pub returns-then-from-marks-clause-all : goal.returns-then-from-marks-clause-all
returns-then-from-marks-clause-all c =
    let far = c.requires.far in
    omega (
      arith,
      far.marks.known_inside,
      paid_on c.args.self.now.table.longest c.args.trail.now.block.end c.args.span.end far.part.inside,
    )

pub returns-then-from-trail-clause-most : goal.returns-then-from-trail-clause-most
returns-then-from-trail-clause-most c =
    by c.begin_block.result c.begin_block.new.tally.scanned _ _ _ _ _ c.begin_block.ensures.most
    (paid_on c.args.self.now.table.longest c.args.trail.now.block.end c.args.from c.if-from-trail.true)
    c.if-from-marks.false
  where
    by : (result : Result ℕ Damaged) (now paid from paid_before known after : ℕ)
        → IfOk result (λ _. now + paid + from ≤ after) → paid_before + 2 * (from - c.args.trail.now.block.end) ≤ paid
        → known ≤ from → IfOk result (λ _. now + paid_before + known ≤ after)
    by (Ok ahead) now paid from paid_before known after most less unknown = omega (arith, most, less, unknown)
    by (Err damaged) now paid from paid_before known after most less unknown = tt

pub returns-then-from-trail-clause-all : goal.returns-then-from-trail-clause-all
returns-then-from-trail-clause-all c =
    omega (
      arith,
      c.begin_block.ensures.all,
      paid_on c.args.self.now.table.longest c.args.trail.now.block.end c.args.from c.if-from-trail.true,
    )

pub returns-in_err-marks-clause-all : goal.returns-in_err-marks-clause-all
returns-in_err-marks-clause-all c =
    let far = c.requires.far in
    omega (
      arith,
      c.in_err-marks.ensures.far,
      far.whole (omega (arith, c.if-from-marks.false, c.if-from-trail.false)),
      c.if-from-marks.false,
      paid_on c.args.self.now.table.longest c.args.trail.now.block.end c.args.span.end far.part.inside,
    )

pub returns-clause-all : goal.returns-clause-all
returns-clause-all c =
    let far = c.requires.far in
    omega (
      arith,
      c.in_ok-marks.ensures.most,
      c.in_ok-marks.ensures.placed.inside,
      far.whole (omega (arith, c.if-from-marks.false, c.if-from-trail.false)),
      c.if-from-marks.false,
      paid_on c.args.self.now.table.longest c.args.trail.now.block.end c.args.span.end far.part.inside,
    )
