use Rattle.std.proofs.Common.{arith}
use Rattle.litscan.proofs.lemmas.Vectors.{none_on}
use Rattle.litscan.proofs.passed.first_end.Goals as goal

pub returns-then-passed-lt-LANES-clause-none : goal.returns-then-passed-lt-LANES-clause-none
returns-then-passed-lt-LANES-clause-none c =
    none_on c.args.bytes.now c.args.line_end c.args.from c.loop-at.at c.before_end-passed.result
    c.loop-at.invariant.none c.before_end-passed.ensures.none

pub loop-at-preserved : goal.loop-at-preserved
loop-at-preserved c = record {
  behind = omega (arith, c.loop-at.invariant.behind);
  inside = omega (arith, c.loop-at-test.true, c.loop-at.invariant.inside);
  none = none_on c.args.bytes.now c.args.line_end c.args.from c.loop-at.at 16 c.loop-at.invariant.none
      (λ k below. c.before_end-passed.ensures.none k
      (omega (arith, below, c.before_end-passed.ensures.few, c.if-passed-lt-LANES.false)));
}
