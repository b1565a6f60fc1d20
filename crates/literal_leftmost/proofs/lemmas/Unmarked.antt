-- Sixteen marks, of which a mask tells where one says that a pattern begins.
use Rattle.std.proofs.Common.{◌≡◌, ℕ, ◌+◌, ◌-◌, ◌%◌, ◌^◌, ◌<◌, ◌≤◌, ◌∙◌, List, [], ◌∷◌, not, ap, arith, bit_or, cond}
use Rattle.std.proofs.Common.{drop, get_or, leb, length, map, replicate, suc, sym, take, w32, zero}
use Rattle.std.proofs.lemmas.Bool.{leb-false, not-true}
use Rattle.std.proofs.lemmas.Nat.{le_or_l, le_or_r}
use Rattle.std.proofs.lemmas.List.Sums.{prefix_len-le-length, prefix_len_passes}
use Rattle.std.proofs.lemmas.Simd.{bitmask_splat, get_or-chunk, leading_from_mask_l, length-chunk, trailing_mask_l}
use Rattle.std.specs.List.{prefix_len}
use Rattle.std.specs.Simd.Lanes.{fold_l, mask_l, top, zip2}
use lib.Count.{count_trailing_zeros}

-- the bits of the marks from 2^31 on
abbrev pub begun_mask : List ℕ → ℕ
begun_mask marks =
    mask_l (map (top 31) (zip2 (λ least mark. cond (leb least mark) (2 ^ 32 - 1) 0) (replicate 16 (2 ^ 31)) marks))
    % 2 ^ 64

-- a bitwise or is not below what it began with
first_small : (limit first : ℕ) (numbers : List ℕ) → fold_l bit_or first numbers < limit → first < limit
first_small limit first [] small = small
first_small limit first (number ∷ more) small =
    omega (arith, first_small limit (bit_or first number) more small, le_or_l first number)

-- nor below one of the numbers
each_small : (limit first : ℕ) (numbers : List ℕ) → fold_l bit_or first numbers < limit → (k : ℕ)
    → k < length numbers → get_or numbers k 0 < limit
each_small limit first [] small k before = absurd (omega (arith, before))
each_small limit first (number ∷ more) small zero before =
    omega (arith, first_small limit (bit_or first number) more small, le_or_r first number)
each_small limit first (number ∷ more) small (suc k) before =
    each_small limit (bit_or first number) more small k (omega (arith, before))

module _ (numbers : List ℕ) (at : ℕ) (inside : at + 16 ≤ length numbers) where
  abbrev pub marks : List ℕ
  marks = take 16 (drop at numbers)

  mask_is : begun_mask marks ≡ mask_l (map (leb (2 ^ 31)) marks)
  mask_is =
      ap (λ lanes. mask_l (map (top 31) lanes) % 2 ^ 64)
      (grind (arith, replicate))
      ∙ bitmask_splat w32 (λ mark least. leb least mark) marks 16 (2 ^ 31) (length-chunk at 16 numbers inside)
      (omega arith)

  small : (n : ℕ) → n ≤ prefix_len (λ mark. not (leb (2 ^ 31) mark)) marks → (i : ℕ) → at ≤ i → i < at + n
      → get_or numbers i 0 < 2 ^ 31
  small n few i after before =
      let k = i - at in
      let here : at + k ≡ i = omega arith in
      let all = prefix_len-le-length (λ mark. not (leb (2 ^ 31) mark)) marks in
      let long = length-chunk at 16 numbers inside in
      let passes = prefix_len_passes (λ mark. not (leb (2 ^ 31) mark)) marks k 0 (omega arith) in
      omega (
        arith,
        leb-false (2 ^ 31) (get_or marks k 0) (not-true _ passes),
        get_or-chunk at 16 numbers k 0
            (omega (arith, all, long)),
        ap (λ j. get_or numbers j 0) here,
      )

  pub none_begun : begun_mask marks ≡ 0 → (i : ℕ) → at ≤ i → i < at + 16 → get_or numbers i 0 < 2 ^ 31
  none_begun none =
      small 16 (omega (
        arith,
        leading_from_mask_l (leb (2 ^ 31)) marks (sym mask_is ∙ none),
        length-chunk at 16 numbers inside,
      ))

  first_is : 0 < begun_mask marks
      → count_trailing_zeros 64 (begun_mask marks) ≡ prefix_len (λ mark. not (leb (2 ^ 31) mark)) marks
  first_is some = grind (arith, mask_is, trailing_mask_l)

  pub first_few : 0 < begun_mask marks → count_trailing_zeros 64 (begun_mask marks) ≤ 16
  first_few some = grind (arith, first_is)

  pub none_before : 0 < begun_mask marks → (i : ℕ) → at ≤ i
      → i < at + count_trailing_zeros 64 (begun_mask marks) → get_or numbers i 0 < 2 ^ 31
  none_before some = grind (arith, small, first_is)

  -- none of them says so, if all their bits together do not
  pub none_together : fold_l bit_or 0 marks < 2 ^ 31 → (i : ℕ) → at ≤ i → i < at + 16 → get_or numbers i 0 < 2 ^ 31
  none_together together i after before =
      let k = i - at in
      let here : at + k ≡ i = omega (arith, after) in
      let long = length-chunk at 16 numbers inside in
      omega (
        arith,
        each_small (2 ^ 31) 0 marks together k (omega (arith, long, before, after)),
        get_or-chunk at 16 numbers k 0 (omega (arith, before, after)),
        ap (λ j. get_or numbers j 0) here,
      )
