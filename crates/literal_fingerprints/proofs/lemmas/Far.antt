-- What a scan by 32 bytes a turn knows.
use Rattle.std.proofs.Common.{◌≡◌, ◌≢◌, ℕ, ◌+◌, ◌-◌, ◌<◌, ◌≤◌, ◌∙◌, List, ap, arith, bit_and, get_or, inl, inr}
use Rattle.std.proofs.Common.{sym}
use Rattle.std.proofs.lemmas.Bool.{cases_lt}
use Rattle.std.specs.Int.Bits.{and_zero_l}
use Rattle.literal_fingerprints.specs.FingerprintsValue.{FingerprintsValue, PassesAt, shared_buckets}
use Rattle.literal_fingerprints.specs.Inside.Lanes.{HasBack, HasLanes, HasWide}
use Rattle.literal_fingerprints.specs.Inside.Scan.{NoneShared, high_of, low_of, shared_highs, shared_lows}
use Rattle.literal_fingerprints.proofs.lemmas.Scan.{same_shared}
use Rattle.literal_fingerprints.proofs.lemmas.Sets.{crossed, meets}

pub lanes_of_half : (lanes half : List ℕ) (f : ℕ → ℕ) → HasBack lanes f → HasLanes half (λ k. get_or lanes (16 + k) 0)
    → HasLanes half f
lanes_of_half lanes half f has back = record {
  long = back.long;
  each = λ k below. back.each k below ∙ has.each k below;
}

module _ (haystack : List ℕ) (at : ℕ) where
  -- the bytes from 16 before a place on
  abbrev pub text : ℕ → ℕ
  text k = get_or haystack (at - 16 + k) 0

  module _ (lanes : List ℕ) (has : HasWide lanes (λ k. get_or haystack (at + k) 0)) where
    pub here_of : 16 ≤ at → HasWide lanes (λ k. text (16 + k))
    here_of far = record {
      long = has.long;
      each = λ k below.
          let place : at + k ≡ at - 16 + (16 + k) = omega arith in
          has.each k below ∙ ap (λ j. get_or haystack j 0) place;
    }

    pub back_of : HasBack lanes (λ k. get_or haystack (at + 32 - 16 + k) 0)
    back_of = record {
      long = has.long;
      each = λ k below.
          let place : at + (16 + k) ≡ at + 32 - 16 + k = omega arith in
          has.each (16 + k) (omega arith) ∙ ap (λ j. get_or haystack j 0) place;
    }

  module _ (f : FingerprintsValue) (far : 16 ≤ at) where
    shared_at : (place k : ℕ) → place + 3 ≡ at + k
        → shared_buckets f (λ j. text (13 + k + j)) ≡ shared_buckets f (λ j. get_or haystack (place + j) 0)
    shared_at place k same =
        same_shared f _ _ (λ j few.
        let there : at - 16 + (13 + k + j) ≡ place + j = omega arith in
        ap (λ n. get_or haystack n 0) there)

    -- more places that are passed over
    pub none_far : (start n : ℕ) → NoneShared f haystack start at
        → ((k : ℕ) → k < n → shared_buckets f (λ j. text (13 + k + j)) ≡ 0) → NoneShared f haystack start (at + n)
    none_far start n old new place after before = elim (cases_lt (place + 3) at) [
      | inl below ↦ old place after below
      | inr past ↦ sym (shared_at place (place + 3 - at) (omega arith)) ∙ new (place + 3 - at) (omega arith)
    ]

    pub passes_far : (n : ℕ) → shared_buckets f (λ j. text (13 + n + j)) ≢ 0 → PassesAt f haystack (at + n - 3)
    passes_far n some none = some (shared_at (at + n - 3) n (omega arith) ∙ none)

-- four bytes share the buckets that they share by both halves
pub by_halves : (f : FingerprintsValue) (text : ℕ → ℕ)
    → bit_and (shared_lows f text) (shared_highs f text) ≡ shared_buckets f text
by_halves f text =
    crossed
    (bit_and (low_of f.first (text 0)) (low_of f.second (text 1)))
    (bit_and (low_of f.third (text 2)) (low_of f.fourth (text 3)))
    (bit_and (high_of f.first (text 0)) (high_of f.second (text 1)))
    (bit_and (high_of f.third (text 2)) (high_of f.fourth (text 3)))
    ∙ meets _ _ _ _
    (crossed (low_of f.first (text 0)) (low_of f.second (text 1)) (high_of f.first (text 0))
    (high_of f.second (text 1)))
    (crossed (low_of f.third (text 2)) (low_of f.fourth (text 3)) (high_of f.third (text 2))
    (high_of f.fourth (text 3)))

pub none_by_lows : (f : FingerprintsValue) (text : ℕ → ℕ) → shared_lows f text ≡ 0 → shared_buckets f text ≡ 0
none_by_lows f text none =
    sym (by_halves f text) ∙ (ap (λ x. bit_and x (shared_highs f text)) none ∙ and_zero_l (shared_highs f text))
