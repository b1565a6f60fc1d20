-- How many bytes of a haystack are one byte.
use Rattle.std.proofs.Common.{◌≡◌, ℕ, ◌+◌, ◌-◌, ◌≤◌, ◌∙◌, ◌%◌, ◌^◌, List, ap, arith, cond, eqb, length, map}
use Rattle.std.proofs.Common.{replicate, sym, take, w8}
use Rattle.std.specs.Prelude.{slice_index}
use Rattle.std.specs.Int.RustNames.{count_ones}
use Rattle.std.specs.List.{count_by, slice_range}
use Rattle.std.specs.Simd.Lanes.{mask_l, top, zip2}
use Rattle.std.proofs.lemmas.Grind.{same_number_lists}
use Rattle.std.proofs.lemmas.List.Sums.{count_by-le-length, sum_by-append}
use Rattle.std.proofs.lemmas.Simd.{bitmask_splat, get_or-chunk, length-chunk, ones-mask_l}
use Rattle.std.proofs.Math.Seq.{take-add}
use lib.Lanes.{chunk}
use Rattle.literal_fingerprints.specs.Inside.Lanes.{HasWide}
use Rattle.literal_fingerprints.specs.ShortPatterns.{is_byte}

-- 32 lanes compared with a byte, as bits
abbrev pub ones : List ℕ → ℕ → ℕ
ones lanes byte =
    count_ones (mask_l (map (top 7) (zip2 (λ a b. cond (eqb a b) 255 0) lanes (replicate 32 byte))) % 2 ^ 64)

ones_are : (lanes : List ℕ) (byte : ℕ) → length lanes ≡ 32 → ones lanes byte ≡ count_by (is_byte byte) lanes
ones_are lanes byte long =
    ap count_ones (bitmask_splat w8 eqb lanes 32 byte long (omega arith)) ∙ ones-mask_l (λ x. eqb x byte) lanes

module _ (haystack : List ℕ) (at byte : ℕ) (lanes : List ℕ) (inside : at + 32 ≤ length haystack)
    (is : HasWide lanes (λ k. slice_index haystack (at + k))) where
  same : lanes ≡ chunk at 32 haystack
  same = same_number_lists lanes (chunk at 32 haystack) (is.long ∙ sym (length-chunk at 32 haystack inside))
      (λ k below. is.each k (omega (arith, is.long)) ∙ sym (get_or-chunk at 32 haystack k 0 (omega (arith, is.long))))

  pub few_in : ones lanes byte ≤ 32
  few_in = omega (arith, ones_are lanes byte is.long, count_by-le-length (is_byte byte) lanes, is.long)

  pub counted_in : ones lanes byte + count_by (is_byte byte) (take at haystack)
      ≡ count_by (is_byte byte) (take (at + 32) haystack)
  counted_in =
      let here = ones_are lanes byte is.long ∙ ap (count_by (is_byte byte)) same in
      let both : count_by (is_byte byte) (take (at + 32) haystack)
      ≡ count_by (is_byte byte) (take at haystack) + count_by (is_byte byte) (chunk at 32 haystack) =
      ap (count_by (is_byte byte)) (take-add at 32 haystack)
      ∙ sum_by-append (λ x. cond (is_byte byte x) 1 0) (take at haystack) (chunk at 32 haystack) in
      omega (arith, here, both)

-- so many before an end as before a start and between the two
pub between_are : (haystack : List ℕ) (byte start at end count : ℕ) → start ≤ end → at ≡ end
    → count + count_by (is_byte byte) (take start haystack) ≡ count_by (is_byte byte) (take at haystack)
    → count ≡ count_by (is_byte byte) (slice_range haystack start end)
between_are haystack byte start at end count ordered is counted =
    let sum : at ≡ start + (end - start) = omega arith in
    let both : count_by (is_byte byte) (take (start + (end - start)) haystack)
    ≡ count_by (is_byte byte) (take start haystack) + count_by (is_byte byte) (slice_range haystack start end) =
    ap (count_by (is_byte byte)) (take-add start (end - start) haystack)
    ∙ sum_by-append (λ x. cond (is_byte byte x) 1 0) (take start haystack) (slice_range haystack start end) in
    omega (arith, counted, both, ap (λ n. count_by (is_byte byte) (take n haystack)) sum)
