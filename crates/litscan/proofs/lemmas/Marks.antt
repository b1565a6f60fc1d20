-- The marks of lines, one after another, are those by their places. For `near`.
use Rattle.std.proofs.Common.{◌≡◌, ◌+◌, ◌-◌, ◌<◌, ◌≤◌, ◌||◌, ◌∷◌, ◌∙◌, [], Bool, List, ℕ, true, false}
use Rattle.std.proofs.Common.{if◌then◌else◌, ap, arith, drop, get_or, inl, inr, length, nat_lt, refl, slice_range}
use Rattle.std.proofs.Common.{suc, sym, take, zero}
use Rattle.std.proofs.lemmas.Bool.{cases_lt, le-ltb, lt-ltb}
use Rattle.std.proofs.lemmas.List.{ext_get_or}
use Rattle.std.proofs.lemmas.List.FromFn.{get_or-map-range_with_len, length-map-range_with_len}
use Rattle.std.specs.List.{list_any}
use Rattle.litscan.specs.Context.{left_out, mark_at, mark_by, marks_of}
use Rattle.litscan.specs.Inside.Groups.{marks_from}

or_last : (b : Bool) → (b || true) ≡ true
or_last true = refl
or_last false = refl

-- the first elements of a list
slice_front : {X : Type 0} (xs : List X) (i j n : ℕ) → i ≡ 0 → j ≡ n → slice_range xs i j ≡ take n xs
slice_front xs i j n start end =
    let size : j - i ≡ n = omega arith in
    ap (λ k. take (j - i) (drop k xs)) start ∙ ap (λ k. take k xs) size

-- elements behind the first
slice_behind : {X : Type 0} (x : X) (more : List X) (i j k n : ℕ) → k ≡ suc i → n ≡ suc j
    → slice_range (x ∷ more) k n ≡ slice_range more i j
slice_behind x more i j k n start end =
    let size : n - k ≡ j - i = omega arith in
    ap (λ m. take (n - k) (drop m (x ∷ more))) start ∙ ap (λ m. take m (drop i more)) size

-- one line fewer is due after one line more
one_less : (k due : ℕ) → nat_lt k (due - 1) ≡ nat_lt (suc k) due
one_less k due =
    elim (cases_lt k (due - 1)) [
      | inl below ↦ lt-ltb k (due - 1) below ∙ sym (lt-ltb (suc k) due (omega (arith, below)))
      | inr above ↦ le-ltb k (due - 1) above ∙ sym (le-ltb (suc k) due (omega (arith, above)))
    ]

module _ (before after : ℕ) where
  -- whether a line that counts is near the line at a place
  abbrev reach : List Bool → ℕ → Bool
  reach counting k = list_any (λ one. one) (slice_range counting (k - after) (k + before + 1))

  -- a line more in front
  reach_more : (counts : Bool) (more : List Bool) (k due : ℕ) → due ≤ after
      → (nat_lt k (if counts then after else due - 1) || reach more k)
      ≡ (nat_lt (suc k) due || reach (counts ∷ more) (suc k))
  reach_more counts more k due few =
      elim (cases_lt k after) [
        | inl below ↦
            let all : reach (counts ∷ more) (suc k) ≡ (counts || reach more k) =
            ap (list_any (λ one. one)) (slice_front (counts ∷ more) (suc k - after) (suc k + before + 1)
            (suc (k + before + 1)) (omega (arith, below)) (omega arith))
            ∙ ap (λ l. counts || list_any (λ one. one) l)
            (sym (slice_front more (k - after) (k + before + 1) (k + before + 1) (omega (arith, below)) refl)) in
            near_front counts (reach more k) below ∙ ap (λ b. nat_lt (suc k) due || b) (sym all)
        | inr above ↦
            let all : reach (counts ∷ more) (suc k) ≡ reach more k =
            ap (list_any (λ one. one)) (slice_behind counts more (k - after) (k + before + 1) (suc k - after)
            (suc k + before + 1) (omega (arith, above)) (omega arith)) in
            far_front counts (reach more k) above ∙ ap (λ b. nat_lt (suc k) due || b) (sym all)
      ]
    where
      near_front : (counts b : Bool) → k < after
          → (nat_lt k (if counts then after else due - 1) || b) ≡ (nat_lt (suc k) due || (counts || b))
      near_front true b below = ap (λ c. c || b) (lt-ltb k after below) ∙ sym (or_last (nat_lt (suc k) due))
      near_front false b below = ap (λ c. c || b) (one_less k due)

      far_front : (counts b : Bool) → after ≤ k
          → (nat_lt k (if counts then after else due - 1) || b) ≡ (nat_lt (suc k) due || b)
      far_front true b above =
          ap (λ c. c || b) (le-ltb k after above ∙ sym (le-ltb (suc k) due (omega (arith, few, above))))
      far_front false b above = ap (λ c. c || b) (one_less k due)

  mark_is : (due : ℕ) (counting : List Bool) (k : ℕ) → due ≤ after → k < length counting
      → get_or (marks_from before after due counting) k left_out
      ≡ mark_by (get_or counting k false) (nat_lt k due || reach counting k)
  mark_is due [] k few below = absurd (omega (arith, below))
  mark_is due (true ∷ more) zero few below = refl
  mark_is due (false ∷ more) zero few below =
      ap (λ b. mark_by false (nat_lt 0 due || b))
      (sym (ap (list_any (λ one. one)) (slice_front (false ∷ more) (0 - after) (0 + before + 1) (suc before)
      (omega arith) (omega arith))))
  mark_is due (true ∷ more) (suc k) few below =
      mark_is after more k (omega arith) (omega (arith, below))
      ∙ ap (mark_by (get_or more k false)) (reach_more true more k due few)
  mark_is due (false ∷ more) (suc k) few below =
      mark_is (due - 1) more k (omega (arith, few)) (omega (arith, below))
      ∙ ap (mark_by (get_or more k false)) (reach_more false more k due few)

  length-marks : (due : ℕ) (counting : List Bool) → length (marks_from before after due counting) ≡ length counting
  length-marks due [] = refl
  length-marks due (true ∷ more) = omega (arith, length-marks after more)
  length-marks due (false ∷ more) = omega (arith, length-marks (due - 1) more)

  pub marks_are : (counting : List Bool) → marks_from before after 0 counting ≡ marks_of before after counting
  marks_are counting =
      ext_get_or left_out (marks_from before after 0 counting) (marks_of before after counting)
      (length-marks 0 counting ∙ sym (length-map-range_with_len (mark_at before after counting) 0 (length counting)))
      (λ i below.
      let inside : i < length counting = omega (arith, below, length-marks 0 counting) in
      mark_is 0 counting i (omega arith) inside
      ∙ ap (λ b. mark_by (get_or counting i false) (b || reach counting i)) (le-ltb i 0 (omega arith))
      ∙ sym (get_or-map-range_with_len (mark_at before after counting) 0 (length counting) i i left_out inside
      (omega arith)))
