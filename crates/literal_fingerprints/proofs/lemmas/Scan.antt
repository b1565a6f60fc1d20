-- What a scan knows of the places that it has passed over.
use Rattle.std.proofs.Common.{◌≡◌, ◌≢◌, ℕ, ◌+◌, ◌-◌, ◌/◌, ◌%◌, ◌<◌, ◌≤◌, ◌∙◌, List, ap, arith, bit_and, cond}
use Rattle.std.proofs.Common.{Bool, false, get_or, replicate, inl, inr, refl, subst, sym, true}
use Rattle.std.proofs.lemmas.Bool.{cases_lt, le-ltb, lt-ltb}
use Rattle.std.proofs.lemmas.List.{get_or-replicate}
use Rattle.std.proofs.lemmas.Simd.{length-replicate}
use Rattle.literal_fingerprints.specs.FingerprintsValue.{FingerprintsValue, HalfTable, PassesAt, buckets_of}
use Rattle.literal_fingerprints.specs.FingerprintsValue.{shared_buckets}
use Rattle.literal_fingerprints.specs.Inside.Lanes.{HasHalves, HasLanes}
use Rattle.literal_fingerprints.specs.Inside.Scan.{AreOfNibbles, high_of, looked_up, low_of, shared_from}
use Rattle.std.specs.Prelude.{nat_lt}
use Rattle.literal_fingerprints.proofs.lemmas.Sets.{crossed, meets}

-- a choice of two sets is what two choices share
both_ways : (t : Bool) (a b : ℕ) → bit_and (cond t 0 a) (cond t 0 b) ≡ cond t 0 (bit_and a b)
both_ways true a b = refl
both_ways false a b = refl

module _ (haystack : List ℕ) (start : ℕ) where
  -- the same lanes, their places counted from the vector before
  pub next_halves : (table : HalfTable) (lanes : List ℕ) (at : ℕ)
      → AreOfNibbles lanes table haystack start (at + 16)
      → HasHalves lanes (λ k. looked_up (low_of table) haystack start (at + (16 + k)))
      (λ k. looked_up (high_of table) haystack start (at + (16 + k)))
  next_halves table lanes at has = record {
    long = has.long;
    front = λ k below.
        let same : at + 16 + k ≡ at + (16 + k) = omega arith in
        has.front k below ∙ ap (looked_up (low_of table) haystack start) same;
    back = λ k below.
        let same : at + 16 + k ≡ at + (16 + k) = omega arith in
        has.back k below ∙ ap (looked_up (high_of table) haystack start) same;
  }

  -- before the span there are no buckets
  none_yet : (buckets : ℕ → ℕ) (k : ℕ) → k < 16 → 0 ≡ looked_up buckets haystack start (start + k)
  none_yet buckets k below =
      sym (ap (λ t. cond t 0 (buckets (get_or haystack (start + k - 16) 0)))
      (lt-ltb (start + k) (start + 16) (omega arith)))

  pub no_lanes : (table : HalfTable) → AreOfNibbles (replicate 32 0) table haystack start start
  no_lanes table = record {
    long = length-replicate {A = ℕ} 32 0;
    front = λ k below. get_or-replicate 32 k 0 0 (omega (arith, below)) ∙ none_yet (low_of table) k below;
    back = λ k below. get_or-replicate 32 (16 + k) 0 0 (omega (arith, below)) ∙ none_yet (high_of table) k below;
  }

  -- by both nibbles of a byte
  pub by_both : (table : HalfTable) (place : ℕ)
      → bit_and (looked_up (low_of table) haystack start place) (looked_up (high_of table) haystack start place)
      ≡ looked_up (buckets_of table) haystack start place
  by_both table place = both_ways (nat_lt place (start + 16)) _ _

  pub moved : (buckets : ℕ → ℕ) (m n : ℕ) → m ≡ n
      → looked_up buckets haystack start m ≡ looked_up buckets haystack start n
  moved buckets m n same = ap (looked_up buckets haystack start) same

  in_span : (buckets : ℕ → ℕ) (place k : ℕ) → start ≤ place
      → looked_up buckets haystack start (place + 16 + k) ≡ buckets (get_or haystack (place + k) 0)
  in_span buckets place k after =
      let same : place + 16 + k - 16 ≡ place + k = omega arith in
      ap (λ t. cond t 0 (buckets (get_or haystack (place + 16 + k - 16) 0)))
      (le-ltb (place + 16 + k) (start + 16) (omega arith))
      ∙ ap (λ j. buckets (get_or haystack j 0)) same

  -- the entries for 16 bytes of the span
  pub looked_lanes : (table : HalfTable) (lanes bytes : List ℕ) (at : ℕ) → start ≤ at
      → HasLanes bytes (λ k. get_or haystack (at + k) 0)
      → HasHalves lanes (λ k. get_or table.low (get_or bytes k 0 % 16) 0)
      (λ k. get_or table.high (get_or bytes k 0 / 16 % 16) 0) → AreOfNibbles lanes table haystack start (at + 16)
  looked_lanes table lanes bytes at after loaded has = record {
    long = has.long;
    front = λ k below.
        has.front k below
        ∙ (ap (low_of table) (loaded.each k below) ∙ sym (in_span (low_of table) at k after));
    back = λ k below.
        has.back k below
        ∙ (ap (high_of table) (loaded.each k below) ∙ sym (in_span (high_of table) at k after));
  }

  module _ (f : FingerprintsValue) where
    -- what four bytes share by both nibbles
    pub shared_by_both : (place : ℕ)
        → bit_and (shared_from low_of f haystack start place) (shared_from high_of f haystack start place)
        ≡ shared_from buckets_of f haystack start place
    shared_by_both place =
        let low : (HalfTable) → ℕ → ℕ = λ table k. looked_up (low_of table) haystack start (place + k) in
        let high : (HalfTable) → ℕ → ℕ = λ table k. looked_up (high_of table) haystack start (place + k) in
        let low0 = looked_up (low_of f.first) haystack start place in
        let high0 = looked_up (high_of f.first) haystack start place in
        crossed (bit_and low0 (low f.second 1)) (bit_and (low f.third 2) (low f.fourth 3))
        (bit_and high0 (high f.second 1)) (bit_and (high f.third 2) (high f.fourth 3))
        ∙ meets _ _ _ _
        (crossed low0 (low f.second 1) high0 (high f.second 1)
        ∙ meets _ _ _ _ (by_both f.first place) (by_both f.second (place + 1)))
        (crossed (low f.third 2) (low f.fourth 3) (high f.third 2) (high f.fourth 3)
        ∙ meets _ _ _ _ (by_both f.third (place + 2)) (by_both f.fourth (place + 3)))

    -- in the span these are the buckets that four bytes share
    pub shared_in_span : (place : ℕ) → start ≤ place
        → shared_from buckets_of f haystack start (place + 16) ≡ shared_buckets f (λ k. get_or haystack (place + k) 0)
    shared_in_span place after =
        let first : place + 16 ≡ place + 16 + 0 = omega arith in
        meets _ _ _ _
        (meets _ _ _ _
        (moved (buckets_of f.first) (place + 16) (place + 16 + 0) first ∙ in_span (buckets_of f.first) place 0 after)
        (in_span (buckets_of f.second) place 1 after))
        (meets _ _ _ _ (in_span (buckets_of f.third) place 2 after) (in_span (buckets_of f.fourth) place 3 after))

    -- before the span four bytes share none
    none_before : (place : ℕ) → place < start + 16 → shared_from buckets_of f haystack start place ≡ 0
    none_before place before =
        let none : looked_up (buckets_of f.first) haystack start place ≡ 0 =
        ap (λ t. cond t 0 (buckets_of f.first (get_or haystack (place - 16) 0))) (lt-ltb place (start + 16) before) in
        ap (λ x. bit_and (bit_and x (looked_up (buckets_of f.second) haystack start (place + 1)))
        (bit_and (looked_up (buckets_of f.third) haystack start (place + 2))
        (looked_up (buckets_of f.fourth) haystack start (place + 3)))) none

    pub after_start : (place : ℕ) → shared_from buckets_of f haystack start place ≢ 0 → start + 16 ≤ place
    after_start place some = elim (cases_lt place (start + 16)) [
      | inl before ↦ absurd (some (none_before place before))
      | inr after ↦ omega arith
    ]

    -- more places that are passed over, by the lanes of the vector at a place
    pub passed_more : (at more : ℕ)
        → ((k : ℕ) → start ≤ k → k + 3 < at → shared_buckets f (λ j. get_or haystack (k + j) 0) ≡ 0)
        → ((k : ℕ) → k < more → shared_from buckets_of f haystack start (at + (13 + k)) ≡ 0)
        → (k : ℕ) → start ≤ k → k + 3 < at + more → shared_buckets f (λ j. get_or haystack (k + j) 0) ≡ 0
    passed_more at more old new k after before = elim (cases_lt (k + 3) at) [
      | inl below ↦ old k after below
      | inr past ↦
          let place : at + (13 + (k + 3 - at)) ≡ k + 16 = omega arith in
          sym (shared_in_span k after)
          ∙ subst (λ j. shared_from buckets_of f haystack start j ≡ 0) place (new (k + 3 - at) (omega arith))
    ]

module _ (f : FingerprintsValue) (haystack : List ℕ) (start at : ℕ) (lanes : List ℕ)
    (has : HasLanes lanes (λ k. shared_from buckets_of f haystack start (at + (13 + k))))
  where
    pub none_shared : (n : ℕ) → n ≤ 16 → ((k : ℕ) → k < n → get_or lanes k 0 ≡ 0)
        → (k : ℕ) → k < n → shared_from buckets_of f haystack start (at + (13 + k)) ≡ 0
    none_shared n few zero k below = sym (has.each k (omega arith)) ∙ zero k below

    module _ (n : ℕ) (few : n < 16) (stops : get_or lanes n 0 ≢ 0) where
      some_shared : shared_from buckets_of f haystack start (at + (13 + n)) ≢ 0
      some_shared none = stops (has.each n few ∙ none)

      -- the first lane that is not 0 belongs to a place in the span
      pub far : start + 3 ≤ at + n
      far = omega (arith, after_start haystack start f (at + (13 + n)) some_shared)

      pub passes : PassesAt f haystack (at + n - 3)
      passes none =
          let inside = far in
          let place : at + n - 3 + 16 ≡ at + (13 + n) = omega arith in
          some_shared (subst (λ j. shared_from buckets_of f haystack start j ≡ 0) place
          (shared_in_span haystack start f (at + n - 3) (omega arith) ∙ none))

-- what four bytes share depends on these alone
pub same_shared : (f : FingerprintsValue) (text other : ℕ → ℕ) → ((k : ℕ) → k < 4 → text k ≡ other k)
    → shared_buckets f text ≡ shared_buckets f other
same_shared f text other same =
    meets _ _ _ _
    (meets _ _ _ _ (ap (buckets_of f.first) (same 0 (omega arith))) (ap (buckets_of f.second) (same 1 (omega arith))))
    (meets _ _ _ _ (ap (buckets_of f.third) (same 2 (omega arith))) (ap (buckets_of f.fourth) (same 3 (omega arith))))
