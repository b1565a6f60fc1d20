-- Lanes that are hit where a haystack has one byte.
use Rattle.std.proofs.Common.{◌≡◌, ◌≢◌, ℕ, ◌+◌, ◌-◌, ◌<◌, ◌≤◌, ◌∙◌, List, ap, arith, get_or, sym}
use Rattle.std.specs.Int.Bits.{or_zero_r}
use Rattle.literal_fingerprints.specs.Inside.Hits.{hit}
use Rattle.literal_fingerprints.specs.Inside.Lanes.{AreLanes}
use Rattle.literal_fingerprints.proofs.lemmas.Hits.{hits, is_hit}

module _ (n byte from : ℕ) (haystack lanes wanted : List ℕ) (are : AreLanes n lanes (λ k. get_or haystack (from + k) 0))
    (is : AreLanes n wanted (λ k. hit byte 0 (get_or lanes k 0))) (passed : ℕ) where
  -- where a lane is 0, the haystack has another byte
  pub none_at : passed ≤ n → ((k : ℕ) → k < passed → get_or wanted k 0 ≡ 0) → (at : ℕ) → from ≤ at
      → at < from + passed → get_or haystack at 0 ≢ byte
  none_at few zero at after before same =
      let k = at - from in
      let below : k < n = omega (arith, few, after, before) in
      let lane : get_or lanes k 0 ≡ byte =
      are.each k below ∙ (ap (λ j. get_or haystack j 0) (omega (arith, after)) ∙ same) in
      let set = sym (is.each k below) ∙ zero k (omega (arith, after, before)) in
      absurd (omega (arith, set, hits byte 0 (get_or lanes k 0) (or_zero_r (get_or lanes k 0) ∙ lane)))

  -- where it is not 0, it has the byte
  pub found_at : passed < n → get_or wanted passed 0 ≢ 0 → get_or haystack (from + passed) 0 ≡ byte
  found_at few some =
      sym (are.each passed few)
      ∙ (sym (or_zero_r (get_or lanes passed 0))
      ∙ is_hit byte 0 (get_or lanes passed 0) (λ none. some (is.each passed few ∙ none)))
