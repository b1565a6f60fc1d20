use Rattle.std.proofs.Common.{◌/◌, ◌%◌, arith, bit_and, get_or, inl, inr, subst}
use Rattle.std.proofs.lemmas.Bool.{cases_lt}
use Rattle.literal_fingerprints.proofs.lemmas.Sets.{IsWithin, both_of, left_within, right_within, within}
use Rattle.literal_fingerprints.proofs.nibbles.Nibbles.of_any_byte.Goals as goal

pub loop-half-preserved : goal.loop-half-preserved
loop-half-preserved c k before =
    let old = c.loop-half.shared in
    let low = get_or c.args.self.now.low c.loop-half.half 0 in
    let high = get_or c.args.self.now.high c.loop-half.half 0 in
    let here = bit_and low high in
    elim (cases_lt k c.loop-half.half) [
      | inl earlier ↦
          let was = c.loop-half.invariant k earlier in
          (within _ _ _ (left_within old here) was.0, within _ _ _ (left_within old here) was.1)
      | inr not_earlier ↦
          subst (λ j. IsWithin (bit_and old here) (get_or c.args.self.now.low j 0)
          × IsWithin (bit_and old here) (get_or c.args.self.now.high j 0)) (omega (arith, before, not_earlier)) (
            within _ _ _ (right_within old here) (left_within low high),
            within _ _ _ (right_within old here) (right_within low high),
          )
    ]

pub returns : goal.returns
returns c byte =
    let all = c.loop-half.invariant in
    both_of _ _ _ (all (byte % 16) (omega (arith, c.loop-half-test.false))).0
    (all (byte / 16 % 16) (omega (arith, c.loop-half-test.false))).1
