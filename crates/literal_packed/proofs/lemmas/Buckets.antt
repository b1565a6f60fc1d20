-- The entries of a bucket, and the patterns that they are for.
-- For the look-up in `RabinKarp::look_up`.
use Rattle.std.proofs.Common.{◌≡◌, ℕ, ◌+◌, ◌%◌, ◌<◌, Bool, true, false, ◌&&◌, cond, eqb, List, ◌∷◌, ◌++◌}
use Rattle.std.proofs.Common.{length, take, drop, get_or, inl, inr, refl, sym, ap, subst, ◌∙◌, arith, add-zero}
use Rattle.std.specs.List.{All, AllPairs, Contains, count_by, range_with_len}
use Rattle.std.proofs.lemmas.Bool.{cases_order, eqb-true, eq-eqb}
use Rattle.std.proofs.lemmas.List.{drop_more, take-append-drop, get_or-take, get_or-drop}
use Rattle.std.proofs.lemmas.List.{length-drop, length-take-le, get_or_default}
use Rattle.std.proofs.lemmas.List.Elements.{All-map, All-filter}
use Rattle.std.proofs.lemmas.List.FromFn.{get_or-range_with_len, length-range_with_len}
use Rattle.std.proofs.lemmas.List.Kept.{AllPairs-filter}
use Rattle.std.proofs.lemmas.List.Sorted.{Contains-permutation, sum_by-IsPermutation}
use Rattle.std.proofs.lemmas.List.Sums.{length-filter}
use Rattle.literal_base.specs.Occurs.{pattern_at, StandsAt}
use Rattle.literal_base.specs.Leftmost.{IsBetter}
use Rattle.literal_packed.specs.PatternsValue.{query_of, PatternsValue, IsWellFormed, IsInOrder}
use Rattle.literal_packed.specs.Inside.Place.{IsBestAt, NoneStandsAt}
use Rattle.literal_packed.proofs.lemmas.Order.{order-below}
use Rattle.literal_packed.specs.Pairs.{key_of, window_sum, has_equal_sum, has_equal_bucket, pairs_at, pairs_at_up_to}
use Rattle.literal_packed.specs.RabinKarpValue.{entries_of, bucket_of}
use Rattle.literal_packed.proofs.lemmas.Lists.{Contains-map, Contains-filter, AllPairs-map, and_implied, and_right_true}
use Rattle.literal_packed.proofs.lemmas.Lists.{and_right_false, and_left_part, count_by-cons, count_by-append}
use Rattle.literal_packed.proofs.lemmas.Lists.{count_by-same, count_by-none}
use Rattle.literal_packed.proofs.lemmas.Lists.{count_by-all, count_by-map, count_by-filter}
use Rattle.literal_packed.proofs.lemmas.Ties.{better_asymmetric, is_up_to, up_to_better, up_to_self, up_to_worse}
use Rattle.literal_packed.proofs.lemmas.MinimumLen.{stands_key}

module _ (c : PatternsValue) where
  abbrev key : ℕ → ℕ
  key i = key_of c.patterns i

  abbrev entry : ℕ → ℕ × ℕ
  entry i = (key i, i)

  abbrev n : ℕ
  n = length c.patterns

  order_has : IsWellFormed c → (j : ℕ) → j < n → Contains c.order j
  order_has w j h =
      Contains-permutation (range_with_len 0 n) c.order j w.once (
        j,
        omega (arith, length-range_with_len 0 n),
        omega (arith, get_or-range_with_len 0 n j j h),
      )

  -- each pattern stands in the bucket of its sum
  in_bucket : IsWellFormed c → (k j : ℕ) → j < n → key j % 64 ≡ k → Contains (bucket_of c k) (entry j)
  in_bucket w k j h is =
      Contains-filter (λ (e : ℕ × ℕ). eqb (e.0 % 64) k) (entries_of c) (entry j)
      (Contains-map entry c.order j (order_has w j h)) (eq-eqb _ _ is)

  abbrev pub IsEntry : ℕ × ℕ → Type 0
  IsEntry e = (e.0 ≡ key e.1) × (e.1 < n)

  pub bucket_entries : IsWellFormed c → (k : ℕ) → All IsEntry (bucket_of c k)
  bucket_entries w k =
      All-filter (λ (e : ℕ × ℕ). eqb (e.0 % 64) k) IsEntry (entries_of c)
      (All-map IsEntry entry c.order (λ i d h. (refl, order-below c w i d h)))

  abbrev BetterEntry : ℕ × ℕ → ℕ × ℕ → Type 0
  BetterEntry e f = IsBetter c.kind c.patterns e.1 f.1

  bucket_in_order : IsInOrder c → (k : ℕ) → AllPairs BetterEntry (bucket_of c k)
  bucket_in_order ordered k =
      AllPairs-filter BetterEntry (λ (e : ℕ × ℕ). eqb (e.0 % 64) k) (entries_of c)
      (AllPairs-map BetterEntry entry c.order ordered)

  count_order : IsWellFormed c → (p : ℕ → Bool) → count_by p c.order ≡ count_by p (range_with_len 0 n)
  count_order w p = sum_by-IsPermutation (λ i. cond (p i) 1 0) (range_with_len 0 n) c.order w.once

  -- what a bucket holds, counted over the patterns
  count_bucket : IsWellFormed c → (k : ℕ) (p : ℕ × ℕ → Bool)
      → count_by p (bucket_of c k) ≡ count_by (λ i. eqb (key i % 64) k && p (entry i)) (range_with_len 0 n)
  count_bucket w k p =
      count_by-filter p (λ (e : ℕ × ℕ). eqb (e.0 % 64) k) (entries_of c)
      ∙ (count_by-map (λ (e : ℕ × ℕ). eqb (e.0 % 64) k && p e) entry c.order
      ∙ count_order w (λ i. eqb (key i % 64) k && p (entry i)))

  length_bucket : IsWellFormed c → (k : ℕ)
      → length (bucket_of c k) ≡ count_by (λ i. eqb (key i % 64) k) (range_with_len 0 n)
  length_bucket w k =
      length-filter (λ (e : ℕ × ℕ). eqb (e.0 % 64) k) (entries_of c)
      ∙ (count_by-map (λ (e : ℕ × ℕ). eqb (e.0 % 64) k) entry c.order ∙ count_order w (λ i. eqb (key i % 64) k))

  -- the entries up to a place of the bucket, counted by their patterns
  count_front : IsInOrder c → (k at : ℕ) (x : ℕ × ℕ) → at < length (bucket_of c k) → get_or (bucket_of c k) at x ≡ x
      → (q : ℕ × ℕ → Bool)
      → count_by (λ e. q e && is_up_to c.kind c.patterns x.1 e.1) (bucket_of c k) ≡ count_by q
      (take at (bucket_of c k)) + cond (q x) 1 0
  count_front ordered k at x within is q =
      let bucket = bucket_of c k in
      let up : ℕ × ℕ → Bool = λ e. is_up_to c.kind c.patterns x.1 e.1 in
      let both : ℕ × ℕ → Bool = λ e. q e && up e in
      let pairs = bucket_in_order ordered k in
      let split : bucket ≡ take at bucket ++ x ∷ drop (at + 1) bucket =
      sym (take-append-drop at bucket) ∙ ap (λ ys. take at bucket ++ ys)
      (drop_more bucket at x within ∙ ap (λ y. y ∷ drop (at + 1) bucket) is) in
      let front : count_by both (take at bucket) ≡ count_by q (take at bucket) =
      count_by-same both q (take at bucket) (λ i d h.
      let before : i < at = omega (arith, length-take-le at bucket (omega arith)) in
      let better : IsBetter c.kind c.patterns (get_or bucket i x).1 x.1 = subst
      (λ y. BetterEntry (get_or bucket i x) y) is (pairs i at x before within) in
      let same : get_or (take at bucket) i d ≡ get_or bucket i x = get_or-take at bucket i d before
      ∙ get_or_default bucket i d x (omega arith) in
      subst (λ y. (q y && up y) ≡ q y) (sym same) (and_right_true _ _ (up_to_better c.kind c.patterns x.1 _ better))) in
      let here : ◌≡◌ {A = ℕ} (cond (both x) 1 0) (cond (q x) 1 0) = ap (λ b. cond b 1 0)
      (and_right_true (q x) _ (up_to_self c.kind c.patterns x.1 x.1 refl)) in
      let back : count_by both (drop (at + 1) bucket) ≡ 0 =
      count_by-none both (drop (at + 1) bucket) (λ i d h.
      let later : at + 1 + i < length bucket = omega (arith, length-drop (at + 1) bucket) in
      let worse : IsBetter c.kind c.patterns x.1 (get_or bucket (at + 1 + i) d).1 =
      subst (λ y. BetterEntry y (get_or bucket (at + 1 + i) d)) (get_or_default bucket at d x within ∙ is)
      (pairs at (at + 1 + i) d (omega arith) later) in
      let same : get_or (drop (at + 1) bucket) i d ≡ get_or bucket (at + 1 + i) d = get_or-drop (at + 1) bucket i d in
      subst (λ y. (q y && up y) ≡ false) (sym same) (and_right_false _ _ (up_to_worse c.kind c.patterns x.1 _ worse)))
      in
      ap (count_by both) split
      ∙ (count_by-append both (take at bucket) (x ∷ drop (at + 1) bucket)
      ∙ (ap (λ m. count_by both (take at bucket) + m) (count_by-cons both x (drop (at + 1) bucket))
      ∙ (ap (λ m. m + (cond (both x) 1 0 + count_by both (drop (at + 1) bucket))) front
      ∙ ap (λ m. count_by q (take at bucket) + m)
      (ap (λ m. m + count_by both (drop (at + 1) bucket)) here
      ∙ (ap (λ m. cond (q x) 1 0 + m) back ∙ add-zero (cond (q x) 1 0))))))

  -- a look-up of the sum of a place
  module _ (w : IsWellFormed c) (ordered : IsInOrder c) (haystack : List ℕ) (at sum : ℕ)
      (is_sum : sum ≡ window_sum c.patterns haystack at) where
    abbrev bucket : List (ℕ × ℕ)
    bucket = bucket_of c (sum % 64)

    abbrev Stands : ℕ × ℕ → Type 0
    Stands e = StandsAt false (pattern_at c.patterns e.1) haystack at

    abbrev has_sum : ℕ × ℕ → Bool
    has_sum e = eqb e.0 sum

    -- an entry of another sum does not stand there
    pub other_sum : (e : ℕ × ℕ) → IsEntry e → (e.0 ≡ sum → ⊥) → ¬ Stands e
    other_sum e is other stands = other (is.0 ∙ (stands_key c.patterns haystack at e.1 is.1 stands ∙ sym is_sum))

    where_stands : (j : ℕ) → j < n → StandsAt false (pattern_at c.patterns j) haystack at → Contains bucket (entry j)
    where_stands j h stands = in_bucket w (sum % 64) j h
        (ap (λ v. v % 64) (stands_key c.patterns haystack at j h stands ∙ sym is_sum))

    pub none_stands : All (λ e. ¬ Stands e) bucket → NoneStandsAt c.patterns false haystack at
    none_stands none j h stands =
        let found = where_stands j h stands in
        none found.0 (entry j) found.1 (subst Stands (sym found.2) stands)

    pub best_stands : (k : ℕ) (x : ℕ × ℕ) → k < length bucket → get_or bucket k x ≡ x
        → All (λ e. ¬ Stands e) (take k bucket) → Stands x → IsBestAt (query_of c) false haystack at x.1
    best_stands k x within is none stands = record {
      is_pattern = subst (λ (e : ℕ × ℕ). e.1 < n) is (bucket_entries w (sum % 64) k x within).1;
      stands = stands;
      best = λ j h better other.
          let found = where_stands j h other in
          let p = found.0 in
          let at_j : get_or bucket p (entry j) ≡ entry j = found.2 in
          elim (cases_order p k) [
            | inl same ↦
                let one : x ≡ entry j = sym is
                ∙ (ap (λ i. get_or bucket i x) (sym same) ∙ (get_or_default bucket p x (entry j) found.1 ∙ at_j)) in
                let one_id : x.1 ≡ j = ap (λ (e : ℕ × ℕ). e.1) one in
                let self : IsBetter c.kind c.patterns j j = subst (λ i. IsBetter c.kind c.patterns j i) one_id better in
                better_asymmetric c.kind c.patterns j j self self
            | inr apart ↦ elim apart [
              | inl before ↦
                  let in_front : p < length (take k bucket) = omega (arith, length-take-le k bucket (omega arith)) in
                  none p (entry j) in_front (subst Stands (sym (get_or-take k bucket p (entry j) before ∙ at_j)) other)
              | inr after ↦
                  let worse = bucket_in_order ordered (sum % 64) k p x after found.1 in
                  let worse_j : IsBetter c.kind c.patterns x.1 j =
                  subst (λ (e : ℕ × ℕ). IsBetter c.kind c.patterns x.1 e.1)
                  (get_or_default bucket p x (entry j) found.1 ∙ at_j)
                  (subst (λ (e : ℕ × ℕ). BetterEntry e (get_or bucket p x)) is worse) in
                  better_asymmetric c.kind c.patterns j x.1 better worse_j
            ]
          ];
    }

    -- the counts of a look-up that finds nothing
    pub entries_none : length bucket ≡ pairs_at (has_equal_bucket c.patterns haystack) n at
    entries_none = length_bucket w (sum % 64)
        ∙ ap (λ v. count_by (λ i. eqb (key i % 64) (v % 64)) (range_with_len 0 n)) is_sum

    both_sums : (a : ℕ) → eqb a sum ≡ true → eqb (a % 64) (sum % 64) ≡ true
    both_sums a is = eq-eqb _ _ (ap (λ v. v % 64) (eqb-true a sum is))

    pub compared_none : count_by has_sum bucket ≡ pairs_at (has_equal_sum c.patterns haystack) n at
    compared_none =
        count_bucket w (sum % 64) has_sum
        ∙ (count_by-same _ _ (range_with_len 0 n)
        (λ i d h. and_implied _ _ (both_sums (key (get_or (range_with_len 0 n) i d))))
        ∙ ap (λ v. count_by (λ i. eqb (key i) v) (range_with_len 0 n)) is_sum)

    -- and of one that finds an entry
    pub entries_some : (k : ℕ) (x : ℕ × ℕ) → k < length bucket → get_or bucket k x ≡ x
        → k + 1 ≡ pairs_at_up_to (has_equal_bucket c.patterns haystack) (query_of c) at x.1
    entries_some k x within is =
        let every : count_by (λ (e : ℕ × ℕ). true) (take k bucket) ≡ length (take k bucket) = count_by-all
        (λ (e : ℕ × ℕ). true) (take k bucket) (λ i d h. refl) in
        let long : length (take k bucket) ≡ k = length-take-le k bucket (omega arith) in
        ap (λ m. m + 1) (sym (every ∙ long))
        ∙ (sym (count_front ordered (sum % 64) k x within is (λ (e : ℕ × ℕ). true))
        ∙ (count_bucket w (sum % 64) (λ e. true && is_up_to c.kind c.patterns x.1 e.1)
        ∙ ap (λ v. count_by (λ i. eqb (key i % 64) (v % 64) && is_up_to c.kind c.patterns x.1 i) (range_with_len 0 n))
        is_sum))

    pub compared_some : (k : ℕ) (x : ℕ × ℕ) → k < length bucket → get_or bucket k x ≡ x → x.0 ≡ sum
        → count_by has_sum (take k bucket) + 1 ≡ pairs_at_up_to (has_equal_sum c.patterns haystack) (query_of c) at x.1
    compared_some k x within is equal =
        let here : ◌≡◌ {A = ℕ} 1 (cond (has_sum x) 1 0) = ap (λ b. cond b 1 0) (sym (eq-eqb _ _ equal)) in
        ap (λ m. count_by has_sum (take k bucket) + m) here
        ∙ (sym (count_front ordered (sum % 64) k x within is has_sum)
        ∙ (count_bucket w (sum % 64) (λ e. has_sum e && is_up_to c.kind c.patterns x.1 e.1)
        ∙ (count_by-same _ _ (range_with_len 0 n) (λ i d h. and_implied _ _ (λ both.
        both_sums (key (get_or (range_with_len 0 n) i d)) (and_left_part _ _ both)))
        ∙ ap (λ v. count_by (λ i. eqb (key i) v && is_up_to c.kind c.patterns x.1 i) (range_with_len 0 n)) is_sum)))
