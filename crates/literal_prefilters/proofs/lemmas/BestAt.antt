-- The best of the patterns that stand at a place, by the patterns that an iterator gave.
-- For `best_at`.
use Rattle.std.proofs.Common.{◌≡◌, ℕ, ◌+◌, ◌<◌, inl, inr, Bool, true, false, cond, List, [], ◌∷◌, ◌++◌, length}
use Rattle.std.proofs.Common.{take, drop, get_or, Some, refl, sym, ap, ◌∙◌, subst, arith}
use Rattle.std.specs.List.{All, Contains, count_by, range_with_len}
use Rattle.std.proofs.lemmas.Bool.{cases_order}
use Rattle.std.proofs.lemmas.List.{get_or-map, get_or_append_left, get_or-take, get_or-drop, drop_more}
use Rattle.std.proofs.lemmas.List.{take-append-drop, length-drop, length-take-le}
use Rattle.std.proofs.lemmas.List.FromFn.{get_or-range_with_len, length-range_with_len}
use Rattle.std.proofs.lemmas.List.Sorted.{Contains-permutation, length_permutation, sum_by-IsPermutation}
use Rattle.literal_base.specs.Leftmost.{IsBetter}
use Rattle.literal_base.specs.Occurs.{StandsAt, pattern_at}
use Rattle.literal_packed.specs.PatternsValue.{PatternsValue, IsWellFormed, IsInOrder, in_order, query_of}
use Rattle.literal_packed.specs.Inside.Place.{IsBestAt, NoneStandsAt}
use Rattle.literal_packed.proofs.lemmas.Lists.{count_by-all, count_by-append, count_by-cons, count_by-none}
use Rattle.literal_packed.proofs.lemmas.Ties.{better_asymmetric, is_up_to, up_to_better, up_to_self, up_to_worse}
use Rattle.literal_packed.proofs.lemmas.IteratedPatterns.{head_at, head_below, length-order}
use Rattle.literal_prefilters.specs.Confirming.{compared_at}

module _ (c : PatternsValue) where
  done_at : (done left : List (ℕ × List ℕ)) → done ++ left ≡ in_order c → (k : ℕ) (d : ℕ × List ℕ) (e : ℕ)
      → k < length done → (get_or done k d).0 ≡ get_or c.order k e
  done_at done left split k d e h =
      let total = length-order c done left split in
      ap (λ (p : ℕ × List ℕ). p.0)
      (sym (get_or_append_left done left d k h)
      ∙ (ap (λ ps. get_or ps k d) split ∙ get_or-map (λ i. (i, pattern_at c.patterns i)) c.order k e d (omega arith)))

  contains_each : IsWellFormed c → (j : ℕ) → j < length c.patterns → Contains c.order j
  contains_each w j h =
      let n = length c.patterns in
      Contains-permutation (range_with_len 0 n) c.order j w.once (
        j,
        omega (arith, length-range_with_len 0 n),
        omega (arith, get_or-range_with_len 0 n j j h),
      )

  -- how many patterns are compared up to one that an iterator gives
  module _ (w : IsWellFormed c) (ordered : IsInOrder c) (done left : List (ℕ × List ℕ)) (x : ℕ × List ℕ)
      (split : done ++ x ∷ left ≡ in_order c) where
    abbrev k : ℕ
    k = length done

    abbrev up : ℕ → Bool
    up i = is_up_to c.kind c.patterns x.0 i

    abbrev Better : ℕ → ℕ → Type 0
    Better = IsBetter c.kind c.patterns

    before_it : count_by up (take k c.order) ≡ k
    before_it =
        let head = head_at c done left x split in
        let long = length-take-le k c.order (omega (arith, head.0)) in
        count_by-all up (take k c.order) (λ i d h.
        let before : i < k = omega (arith, long) in
        let better : Better (get_or c.order i d) x.0 =
        subst (λ y. Better (get_or c.order i d) y) (head.1 d) (ordered i k d before head.0) in
        subst (λ y. up y ≡ true) (sym (get_or-take k c.order i d before)) (up_to_better c.kind c.patterns x.0 _ better))
        ∙ long

    behind_it : count_by up (drop (k + 1) c.order) ≡ 0
    behind_it =
        let head = head_at c done left x split in
        count_by-none up (drop (k + 1) c.order) (λ i d h.
        let later : k + 1 + i < length c.order = omega (arith, length-drop (k + 1) c.order) in
        let worse : Better x.0 (get_or c.order (k + 1 + i) d) =
        subst (λ y. Better y (get_or c.order (k + 1 + i) d)) (head.1 d)
        (ordered k (k + 1 + i) d (omega arith) later) in
        subst (λ y. up y ≡ false) (sym (get_or-drop (k + 1) c.order i d)) (up_to_worse c.kind c.patterns x.0 _ worse))

    pub compared_up_to : compared_at (query_of c) (Some x.0) ≡ k + 1
    compared_up_to =
        let head = head_at c done left x split in
        let split_order : c.order ≡ take k c.order ++ x.0 ∷ drop (k + 1) c.order =
        sym (take-append-drop k c.order) ∙ ap (λ ys. take k c.order ++ ys)
        (drop_more c.order k x.0 head.0 ∙ ap (λ y. y ∷ drop (k + 1) c.order) (head.1 x.0)) in
        let here : cond {A = ℕ} (up x.0) 1 0 ≡ 1 =
        ap (λ b. cond {A = ℕ} b 1 0) (up_to_self c.kind c.patterns x.0 x.0 refl) in
        sym (sum_by-IsPermutation (λ i. cond (up i) 1 0) (range_with_len 0 (length c.patterns)) c.order w.once)
        ∙ (ap (count_by up) split_order
        ∙ (count_by-append up (take k c.order) (x.0 ∷ drop (k + 1) c.order)
        ∙ omega (arith, before_it, behind_it, here, count_by-cons up x.0 (drop (k + 1) c.order))))

  module _ (ignore_case : Bool) (haystack : List ℕ) (at : ℕ) where
    abbrev pub NoneStandsOf : List (ℕ × List ℕ) → Type 0
    NoneStandsOf done = All (λ (p : ℕ × List ℕ). ¬ StandsAt ignore_case (pattern_at c.patterns p.0) haystack at) done

    pub best_from_front : IsWellFormed c → IsInOrder c → (done left : List (ℕ × List ℕ)) (x : ℕ × List ℕ)
        → done ++ x ∷ left ≡ in_order c → NoneStandsOf done
        → StandsAt ignore_case (pattern_at c.patterns x.0) haystack at
        → IsBestAt (query_of c) ignore_case haystack at x.0
    best_from_front w ordered done left x split none stands =
        let head = head_at c done left x split in record {
          is_pattern = head_below c w done left x split;
          stands = stands;
          best = λ j is_pattern better other.
              let found = contains_each w j is_pattern in
              let place = found.0 in
              let is_j = found.2 in
              elim (cases_order place (length done)) [
                | inl same ↦
                    let equal : j ≡ x.0 = sym is_j ∙ (ap (λ k. get_or c.order k j) same ∙ head.1 j) in
                    better_asymmetric c.kind c.patterns j x.0 better
                    (subst (λ (i : ℕ). IsBetter c.kind c.patterns i j) equal
                    (subst (λ (i : ℕ). IsBetter c.kind c.patterns j i) (sym equal) better))
                | inr apart ↦ elim apart [
                  | inl before ↦
                      let is_done : (get_or done place x).0 ≡ j = done_at done (x ∷ left) split place x j before
                      ∙ is_j in
                      none place x before (rw is_done other)
                  | inr after ↦
                      let reversed : IsBetter c.kind c.patterns (get_or c.order (length done) j)
                      (get_or c.order place j) = ordered (length done) place j after found.1 in
                      better_asymmetric c.kind c.patterns j x.0 better (rw (head.1 j, is_j) at reversed)
                ]
              ];
        }

    pub none_from_all : IsWellFormed c → (done : List (ℕ × List ℕ)) → done ++ [] ≡ in_order c → NoneStandsOf done
        → NoneStandsAt c.patterns ignore_case haystack at
    none_from_all w done split none j is_pattern stands =
        let found = contains_each w j is_pattern in
        let total = length-order c done [] split in
        let before : found.0 < length done = omega (arith, found.1) in
        let is_done : (get_or done found.0 (j, [])).0 ≡ j = done_at done [] split found.0 (j, []) j before ∙ found.2 in
        none found.0 (j, []) before (rw is_done stands)

    -- how many patterns an iterator gave at most
    pub given_at_most : IsWellFormed c → (done left : List (ℕ × List ℕ)) → done ++ left ≡ in_order c
        → length done + length left ≡ length c.patterns
    given_at_most w done left split = length-order c done left split
        ∙ (length_permutation (range_with_len 0 (length c.patterns)) c.order w.once
        ∙ length-range_with_len 0 (length c.patterns))
