use Rattle.std.proofs.Common.{◌≡◌, ◌+◌, ◌-◌, ◌∙◌, ap, arith, get_or, inl, inr}
use Rattle.std.proofs.lemmas.Bool.{cases_lt}
use Rattle.litscan.proofs.passed.end_of_lines.Goals as goal

pub loop-end-preserved : goal.loop-end-preserved
loop-end-preserved c = record {
  inside = omega (arith, c.loop-end.invariant.inside);
  none = λ k after below is.
      let start = c.loop-end.end - 16 in
      elim (cases_lt k c.loop-end.end) [
        | inl here ↦
            let place : start + (k - start) ≡ k = omega (arith, after) in
            c.before_end.ensures.none (k - start)
            (omega (arith, here, after, c.loop-end-test.true, c.if-before_end-eq-LANES.true))
            (ap (λ j. get_or c.args.bytes.now j 0) place ∙ is)
        | inr later ↦ c.loop-end.invariant.none k later below is
      ];
}
