-- Which lane of a vector is the first with a byte. For `passed`.
use Rattle.std.proofs.Common.{◌≡◌, ◌≢◌, ℕ, ◌%◌, ◌^◌, ◌<◌, ◌≤◌, ◌∙◌, List, Bool, true, false, not, eqb, length, get_or}
use Rattle.std.proofs.Common.{◌+◌, ◌-◌, replicate, cond, map, sym, ap, arith, w8, inl, inr}
use Rattle.std.proofs.lemmas.Bool.{cases_lt}
use Rattle.std.proofs.lemmas.Bool.Decides.{nat_tests}
use Rattle.std.proofs.lemmas.List.Sums.{prefix_len-le-length, prefix_len_passes, prefix_len_stops}
use Rattle.std.proofs.lemmas.Simd.{bitmask_splat, leading_from_mask_l, trailing_mask_l}
use Rattle.std.specs.List.{prefix_len}
use Rattle.std.specs.Simd.Lanes.{mask_l, top, zip2}
use lib.Count.{count_trailing_zeros}

module _ (byte : ℕ) where
  abbrev is_it : ℕ → Bool
  is_it x = eqb x byte

  other : (x : ℕ) → not (is_it x) ≡ true → x ≢ byte
  other x is = grind (arith, nat_tests)

  same : (x : ℕ) → not (is_it x) ≡ false → x ≡ byte
  same x is = grind (arith, nat_tests)

  -- the bits of the lanes with this byte
  abbrev pub bits_of : List ℕ → ℕ
  bits_of lanes =
      mask_l (map (top 7) (zip2 (λ a b. cond (eqb a b) 255 0) lanes (replicate 16 byte))) % 2 ^ 64

  module _ (lanes : List ℕ) (long : length lanes ≡ 16) where
    bits_are : bits_of lanes ≡ mask_l (map is_it lanes)
    bits_are = bitmask_splat w8 (λ a b. eqb a b) lanes 16 byte long (omega arith)

    in_front : (m : ℕ) → m ≤ prefix_len (λ x. not (is_it x)) lanes → (k : ℕ) → k < m → get_or lanes k 0 ≢ byte
    in_front m short k below = other _ (prefix_len_passes (λ x. not (is_it x)) lanes k 0 (omega arith))

    pub no_lane : bits_of lanes ≡ 0 → (k : ℕ) → k < 16 → get_or lanes k 0 ≢ byte
    no_lane none = in_front 16 (omega (arith, leading_from_mask_l is_it lanes (sym bits_are ∙ none)))

    first_is : bits_of lanes ≢ 0
        → count_trailing_zeros 64 (bits_of lanes) ≡ prefix_len (λ x. not (is_it x)) lanes
    first_is some =
        ap (count_trailing_zeros 64) bits_are
        ∙ trailing_mask_l is_it 64 lanes (omega arith) (omega (arith, bits_are))

    pub first_few : bits_of lanes ≢ 0 → count_trailing_zeros 64 (bits_of lanes) ≤ 16
    first_few some = omega (arith, first_is some, prefix_len-le-length (λ x. not (is_it x)) lanes)

    pub none_before : bits_of lanes ≢ 0 → (k : ℕ) → k < count_trailing_zeros 64 (bits_of lanes)
        → get_or lanes k 0 ≢ byte
    none_before some = in_front (count_trailing_zeros 64 (bits_of lanes)) (omega (arith, first_is some))

    pub first_lane : bits_of lanes ≢ 0 → count_trailing_zeros 64 (bits_of lanes) < 16
        → get_or lanes (count_trailing_zeros 64 (bits_of lanes)) 0 ≡ byte
    first_lane some below =
        ap (λ k. get_or lanes k 0) (first_is some)
        ∙ same _ (prefix_len_stops (λ x. not (is_it x)) lanes 0 (omega (arith, first_is some)))

-- no end in a part of a list, and none behind it
pub none_on : (bytes : List ℕ) (byte from at n : ℕ) → ((k : ℕ) → from ≤ k → k < at → get_or bytes k 0 ≢ byte)
    → ((k : ℕ) → k < n → get_or bytes (at + k) 0 ≢ byte) → (k : ℕ) → from ≤ k → k < at + n → get_or bytes k 0 ≢ byte
none_on bytes byte from at n before behind k after below =
    elim (cases_lt k at) [
      | inl front ↦ before k after front
      | inr later ↦
          let place : at + (k - at) ≡ k = omega (arith, later) in
          λ is. behind (k - at) (omega (arith, later, below)) (ap (λ j. get_or bytes j 0) place ∙ is)
    ]
