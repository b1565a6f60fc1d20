-- The parts of a list that is sorted by bucket.
-- For `starts_of` and `RabinKarp::new`.
use Rattle.std.proofs.Common.{◌≡◌, ℕ, ◌+◌, ◌-◌, ◌%◌, ◌<◌, ◌≤◌, inl, inr, Bool, true, false, eqb, List, [], ◌++◌}
use Rattle.std.proofs.Common.{length, take, drop, get_or, set, ltb, sym, ap, subst, ◌∙◌, arith, append-nil}
use Rattle.std.specs.List.{AllWithin, filter, slice_range}
use Rattle.std.specs.List.Sorted.{IsPartitionPoint, IsStableByKey, ties}
use Rattle.std.specs.Ordering.{is_lt, nat_cmp}
use Rattle.std.proofs.lemmas.Bool.{cases_lt, cases_eq, ltb-true, ltb-false, eq-eqb, ne_eqb}
use Rattle.std.proofs.lemmas.Bool.Decides.{nat_tests}
use Rattle.std.proofs.lemmas.List.{length-take-le, length-drop, get_or-take, get_or-drop, get_or-set_same}
use Rattle.std.proofs.lemmas.List.{get_or-set_other, take-append-drop}
use Rattle.std.proofs.lemmas.List.Elements.{filter-append, filter_agree}
use Rattle.literal_packed.specs.Inside.Entries.{AreStarts, IsStart, start_at, part_at, bucket_number}
use Rattle.literal_packed.proofs.lemmas.Lists.{filter-none, filter-all}

-- the part of a list between two places is what passes a test that fails before it and behind it
part_filter : {X : Type 0} (p : X → Bool) (xs : List X) (from to : ℕ) → from ≤ to → to ≤ length xs
    → AllWithin (λ x. p x ≡ false) xs 0 from → AllWithin (λ x. p x ≡ true) xs from to
    → AllWithin (λ x. p x ≡ false) xs to (length xs) → slice_range xs from to ≡ filter p xs
part_filter p xs from to ordered inside before here behind =
    let front = take from xs in
    let rest = drop from xs in
    let part = take (to - from) rest in
    let back = drop (to - from) rest in
    let rest_len = length-drop from xs in
    let no_front : filter p front ≡ [] =
    filter-none p front (λ k d within.
    let low : k < from = omega (arith, length-take-le from xs (omega arith)) in
    subst (λ x. p x ≡ false) (sym (get_or-take from xs k d low)) (before k d (omega arith) low)) in
    let whole_part : filter p part ≡ part =
    filter-all p part (λ k d within.
    let low : k < to - from = omega (arith, length-take-le (to - from) rest (omega arith)) in
    subst (λ x. p x ≡ true) (sym (get_or-take (to - from) rest k d low ∙ get_or-drop from xs k d))
    (here (from + k) d (omega arith) (omega arith))) in
    let no_back : filter p back ≡ [] =
    filter-none p back (λ k d within.
    let low : to - from + k < length rest = omega (arith, length-drop (to - from) rest) in
    subst (λ x. p x ≡ false) (sym (get_or-drop (to - from) rest k d ∙ get_or-drop from xs (to - from + k) d))
    (behind (from + (to - from + k)) d (omega arith) (omega arith))) in
    sym (ap (filter p) (sym (take-append-drop from xs))
    ∙ (filter-append p front rest
    ∙ (ap (λ ys. ys ++ filter p rest) no_front
    ∙ (ap (filter p) (sym (take-append-drop (to - from) rest))
    ∙ (filter-append p part back
    ∙ (ap (λ ys. ys ++ filter p back) whole_part ∙ (ap (λ ys. part ++ ys) no_back ∙ append-nil part)))))))

-- one number more of an array
pub set_more : (P : ℕ → ℕ → Type 0) (starts : List ℕ) (b at : ℕ) → b < length starts
    → ((k : ℕ) → k < b → P k (start_at starts k)) → P b at → (k : ℕ) → k < b + 1 → P k (start_at (set starts b at) k)
set_more P starts b at inside so_far here k within =
    elim (cases_eq k b) [
      | inl same ↦ subst (λ i. P i (start_at (set starts b at) i)) (sym same)
          (subst (P b) (sym (get_or-set_same starts b at 0 inside)) here)
      | inr other ↦ subst (P k) (sym (get_or-set_other starts b k at 0 other)) (so_far k (omega (arith, other)))
    ]

-- what a binary search for the first entry of a later bucket gives
pub is_start : (entries : List (ℕ × ℕ)) (k at : ℕ) → at ≤ length entries
    → IsPartitionPoint (λ e. ltb (bucket_number e) k ≡ true) (λ e. ltb (bucket_number e) k ≡ false) entries at
    → IsStart entries k at
is_start entries k at within point = record {
  within = within;
  between = (λ i d low high. ltb-true _ _ (point.0 i d low high), λ i d low high. ltb-false _ _ (point.1 i d low high));
}

-- whether an entry is of bucket k
abbrev pub in_bucket : ℕ → ℕ × ℕ → Bool
in_bucket k e = eqb (e.0 % 64) k

-- entries of one bucket tie, and no others do
ties_of_bucket : (k : ℕ) (e : ℕ × ℕ)
    → ties (λ x y. is_lt (nat_cmp (bucket_number x) (bucket_number y))) (k, 0) e ≡ eqb (e.0 % 64) (k % 64)
ties_of_bucket k e = grind (arith, nat_tests)

-- so a stable sort by bucket keeps their order
pub filter_stable : (k : ℕ) (xs ys : List (ℕ × ℕ)) → k < 64 → IsStableByKey bucket_number nat_cmp xs ys
    → filter (in_bucket k) ys ≡ filter (in_bucket k) xs
filter_stable k xs ys below stable =
    let small : k % 64 ≡ k = omega arith in
    let same : (e : ℕ × ℕ)
    → in_bucket k e ≡ ties (λ x y. is_lt (nat_cmp (bucket_number x) (bucket_number y))) (k, 0) e =
    λ e. ap (λ n. eqb (e.0 % 64) n) (sym small) ∙ sym (ties_of_bucket k e) in
    filter_agree _ _ same ys ∙ (stable (k, 0) ∙ sym (filter_agree _ _ same xs))

module _ (starts : List ℕ) (entries : List (ℕ × ℕ)) (are : AreStarts starts entries) (k : ℕ) (below : k < 64) where
  abbrev start : ℕ → ℕ
  start i = start_at starts i

  abbrev number : ℕ → ℕ × ℕ → ℕ
  number i d = bucket_number (get_or entries i d)

  inside : start (k + 1) ≤ length entries
  inside = (are (k + 1) (omega arith)).within

  -- the entries before the bucket, up to its end, from its beginning on, and behind it
  before_it : (i : ℕ) (d : ℕ × ℕ) → i < start k → number i d < k
  before_it i d early = (are k (omega arith)).between.0 i d (omega arith) early

  up_to_end : (i : ℕ) (d : ℕ × ℕ) → i < start (k + 1) → number i d < k + 1
  up_to_end i d early = (are (k + 1) (omega arith)).between.0 i d (omega arith) early

  from_it : (i : ℕ) (d : ℕ × ℕ) → start k ≤ i → i < length entries → k ≤ number i d
  from_it i d late within = (are k (omega arith)).between.1 i d late within

  behind_it : (i : ℕ) (d : ℕ × ℕ) → start (k + 1) ≤ i → i < length entries → k + 1 ≤ number i d
  behind_it i d late within = (are (k + 1) (omega arith)).between.1 i d late within

  pub starts_ordered : start k ≤ start (k + 1)
  starts_ordered =
      elim (cases_lt (start (k + 1)) (start k)) [
        | inl back ↦
            let bound = (are k (omega arith)).within in
            let early = before_it (start (k + 1)) (0, 0) back in
            let late = behind_it (start (k + 1)) (0, 0) (omega arith) (omega arith) in
            absurd (omega arith)
        | inr on ↦ omega arith
      ]

  -- part k holds the entries of bucket k
  pub part_is : part_at starts entries k ≡ filter (in_bucket k) entries
  part_is =
      part_filter (in_bucket k) entries (start k) (start (k + 1)) starts_ordered inside
      (λ i d low high. let early = before_it i d high in ne_eqb _ _ (λ is. omega arith))
      (λ i d low high.
      let late = from_it i d low (omega (arith, inside)) in
      let early = up_to_end i d high in
      eq-eqb _ _ (omega arith))
      (λ i d low high. let late = behind_it i d low high in ne_eqb _ _ (λ is. omega arith))

  pub part_len : start (k + 1) - start k ≡ length (part_at starts entries k)
  part_len =
      let ordered = starts_ordered in
      let within = inside in
      sym (length-take-le (start (k + 1) - start k) (drop (start k) entries)
      (omega (arith, length-drop (start k) entries)))

  pub part_entry : (i : ℕ) (d : ℕ × ℕ) → i < length (part_at starts entries k)
      → get_or (part_at starts entries k) i d ≡ get_or entries (start k + i) d
  part_entry i d here =
      get_or-take (start (k + 1) - start k) (drop (start k) entries) i d (omega (arith, part_len))
      ∙ get_or-drop (start k) entries i d
