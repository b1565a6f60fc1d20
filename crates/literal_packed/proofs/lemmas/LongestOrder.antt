-- The order in which the patterns are sorted.
-- For `sort_longest_first` and `put_in_order`.
use Rattle.std.proofs.Common.{◌≡◌, ◌≢◌, ℕ, ◌+◌, ◌<◌, ◌≤◌, ◌⊎◌, false, inl, inr, List, length, get_or, nat_eq, arith}
use Rattle.std.proofs.Common.{zero, suc}
use Rattle.std.specs.Cmp.{IsTotalOrder, IsStrictWeakOrder}
use Rattle.std.specs.Ordering.{nat_cmp, is_lt, ordering_then}
use Rattle.std.specs.List.{AllPairs, AllByRecursion, IsDistinct, range_with_len}
use Rattle.std.specs.List.Sorted.{IsSorted, IsPermutation}
use Rattle.std.proofs.lemmas.Bool.{cases_order, ne_eqb}
use Rattle.std.proofs.lemmas.Bool.Decides.{nat_tests, Decides-eqb}
use Rattle.std.proofs.lemmas.Cmp.{nat_cmp_total, on_total, then_total, back_total}
use Rattle.std.proofs.lemmas.List.Sorted.{ranks_by, sorted_far, IsNonDecreasingBy-from_sort}
use Rattle.std.proofs.lemmas.Map.Keys.{IsDistinct-IsPermutation}
use Rattle.std.proofs.lemmas.Map.Made.{AllPairs-from_IsDistinct}
use Rattle.literal_base.specs.declared.packed.MatchKind.TheVariants.{LeftmostFirst, LeftmostLongest}
use Rattle.literal_base.specs.Occurs.{pattern_at}
use Rattle.literal_base.specs.Leftmost.{IsBetter}
use Rattle.literal_packed.specs.Inside.Longest.{longest_cmp}

longest_total : (patterns : List (List ℕ)) → IsTotalOrder (longest_cmp patterns)
longest_total patterns =
    then_total (back_total (on_total (λ i. length (pattern_at patterns i)) nat_cmp_total)) nat_cmp_total

pub longest_ranks : (patterns : List (List ℕ)) → IsStrictWeakOrder (λ i j. is_lt (longest_cmp patterns i j))
longest_ranks patterns = ranks_by (longest_total patterns) (λ i. i)

-- where y is not before x, x is before y
not_lt : (a b x y : ℕ) → (x ≡ y → ⊥) → is_lt (ordering_then (nat_cmp a b) (nat_cmp y x)) ≡ false → (b < a)
    ⊎ ((a ≡ b) × (x < y))
not_lt a b x y apart h =
    elim (cases_order a b) [
      | inl same ↦ inr (same, grind (arith, nat_tests))
      | inr other ↦ elim other [ inl below ↦ absurd (grind (arith, nat_tests)) | inr above ↦ inl above ]
    ]

-- numbers that differ, in the order of `longest_cmp`, are each better than all after
pub better_from_longest : (patterns : List (List ℕ)) (xs : List ℕ) → AllPairs ◌≢◌ xs
    → IsSorted (longest_cmp patterns) xs → AllPairs (IsBetter LeftmostLongest patterns) xs
better_from_longest patterns xs apart sorted i j d before in_range =
    not_lt _ _ _ _ (apart i j d before in_range)
    (sorted_far (λ i j. is_lt (longest_cmp patterns i j)) (longest_ranks patterns) xs sorted i j d
    (omega arith) in_range)

-- numbers that differ, in rising order
pub better_from_sorted : (patterns : List (List ℕ)) (xs : List ℕ) → AllPairs ◌≢◌ xs → IsSorted nat_cmp xs
    → AllPairs (IsBetter LeftmostFirst patterns) xs
better_from_sorted patterns xs apart sorted i j d before in_range =
    let up : get_or xs i d ≤ get_or xs j d = IsNonDecreasingBy-from_sort (λ x. x) xs sorted i j d
    (omega arith) in_range in
    let differ : get_or xs i d ≢ get_or xs j d = apart i j d before in_range in
    omega arith

range-above : (a b n : ℕ) → a < b → AllByRecursion (λ y. nat_eq a y ≡ false) (range_with_len b n)
range-above a b zero below = tt
range-above a b (suc n) below = (ne_eqb a b (omega arith), range-above a (b + 1) n (omega arith))

IsDistinct-range : (a n : ℕ) → IsDistinct nat_eq (range_with_len a n)
unfolding IsDistinct
IsDistinct-range a zero = tt
IsDistinct-range a (suc n) = (range-above a (a + 1) n (omega arith), IsDistinct-range (a + 1) n)

nat_eq-flips : (x y : ℕ) → nat_eq x y ≡ nat_eq y x
nat_eq-flips x y = grind (arith, nat_tests)

-- the numbers from 0 on, in any order, differ
pub order-apart : (n : ℕ) (xs : List ℕ) → IsPermutation (range_with_len 0 n) xs → AllPairs ◌≢◌ xs
order-apart n xs h =
    AllPairs-from_IsDistinct Decides-eqb xs (IsDistinct-IsPermutation nat_eq nat_eq-flips (range_with_len 0 n) xs h
    (IsDistinct-range 0 n))
