-- The rare byte of a pattern is the earliest of least rank.
-- For the law `rarest_bytes_are_earliest_of_least_rank`.
use Rattle.std.proofs.Common.{◌≡◌, ℕ, ◌<◌, ◌≤◌, ◌⊎◌, zero, suc, fold, nat_lt, List, [], ◌∷◌}
use Rattle.std.proofs.Common.{length, get_or, slice_index, inl, inr, refl, sym, ap, ◌∙◌, ⊎_elim, arith}
use Rattle.std.proofs.lemmas.Bool.{cases_lt, lt-ltb, le-ltb, cond-true, cond-false}
use Rattle.literal_base.specs.Rank.{rank_of}
use Rattle.literal_prefilters.specs.Tables.{rarer, rarest}
use Rattle.literal_prefilters.specs.Rarest.{IsRarest}

-- no byte of the list is rarer than the byte that was kept
abbrev Stays : List ℕ → ℕ → ℕ → Type 0
Stays xs a r = (r ≡ a) × ((k : ℕ) → k < length xs → rank_of a ≤ rank_of (get_or xs k 0))

record Takes (xs : List ℕ) (a r : ℕ) : Type 0 where
  offset : ℕ
  inside : offset < length xs
  here : get_or xs offset 0 ≡ r
  rare : rank_of r < rank_of a
  least : (k : ℕ) → k < length xs → rank_of r ≤ rank_of (get_or xs k 0)
  earliest : (k : ℕ) → k < offset → rank_of r < rank_of (get_or xs k 0)

rarest_from : (xs : List ℕ) (a : ℕ) → Stays xs a (fold rarer a xs) ⊎ Takes xs a (fold rarer a xs)
rarest_from [] a = inl (refl, λ k below. absurd (omega arith))
rarest_from (x ∷ xs) a =
    ⊎_elim
    (λ (lower : rank_of x < rank_of a).
    let now : rarer a x ≡ x = cond-true (nat_lt (rank_of x) (rank_of a)) x a (lt-ltb (rank_of x) (rank_of a) lower) in
    let r : ℕ = fold rarer (rarer a x) xs in
    ⊎_elim
    (λ (s : Stays xs (rarer a x) r).
    let is : r ≡ x = s.0 ∙ now in
    let same : rank_of r ≡ rank_of x = ap rank_of is in
    let kept : rank_of (rarer a x) ≡ rank_of x = ap rank_of now in
    let here : Takes (x ∷ xs) a r = record {
      offset = 0;
      inside = omega arith;
      here = sym is;
      rare = omega arith;
      least = λ k below. at_or_after k below (omega arith) (λ j inside. omega (arith, s.1 j inside));
      earliest = λ k before. absurd (omega arith);
    } in inr here)
    (λ (t : Takes xs (rarer a x) r).
    let kept : rank_of (rarer a x) ≡ rank_of x = ap rank_of now in
    let low = t.rare in
    inr (later t (omega arith) (omega arith)))
    (rarest_from xs (rarer a x)))
    (λ (not_lower : rank_of a ≤ rank_of x).
    let now : rarer a x ≡ a = cond-false (nat_lt (rank_of x) (rank_of a)) x a
    (le-ltb (rank_of x) (rank_of a) not_lower) in
    let r : ℕ = fold rarer (rarer a x) xs in
    let kept : rank_of (rarer a x) ≡ rank_of a = ap rank_of now in
    ⊎_elim
    (λ (s : Stays xs (rarer a x) r).
    inl (s.0 ∙ now, λ k below. at_or_after k below not_lower (λ j inside. omega (arith, s.1 j inside))))
    (λ (t : Takes xs (rarer a x) r).
    let low = t.rare in
    inr (later t (omega arith) (omega arith)))
    (rarest_from xs (rarer a x)))
    (cases_lt (rank_of x) (rank_of a))
  where
    at_or_after : {n : ℕ} (k : ℕ) → k < length (x ∷ xs) → n ≤ rank_of x
        → ((j : ℕ) → j < length xs → n ≤ rank_of (get_or xs j 0)) → n ≤ rank_of (get_or (x ∷ xs) k 0)
    at_or_after zero below first more = first
    at_or_after (suc k) below first more = more k (omega arith)

    before_or_after : {n m : ℕ} (k : ℕ) → k < suc m → n < rank_of x → ((j : ℕ) → j < m → n < rank_of (get_or xs j 0))
        → n < rank_of (get_or (x ∷ xs) k 0)
    before_or_after zero below first more = first
    before_or_after (suc k) below first more = more k (omega arith)

    later : {b r : ℕ} → Takes xs b r → rank_of r < rank_of a → rank_of r < rank_of x → Takes (x ∷ xs) a r
    later t low first = record {
      offset = suc t.offset;
      inside = omega (arith, t.inside);
      here = t.here;
      rare = low;
      least = λ k below. at_or_after k below (omega arith) t.least;
      earliest = λ k before. before_or_after k before first t.earliest;
    }

pub rarest_is : (p : List ℕ) → 0 < length p → IsRarest p (rarest p)
rarest_is p some =
    ⊎_elim
    (λ (s : Stays p (slice_index p 0) (rarest p)).
    let same : rank_of (rarest p) ≡ rank_of (slice_index p 0) = ap rank_of s.0 in
    let it : IsRarest p (rarest p) = record {
      offset = 0;
      inside = some;
      here = sym s.0;
      least = λ k below. omega (arith, s.1 k below);
      earliest = λ k before. absurd (omega arith);
    } in it)
    (λ (t : Takes p (slice_index p 0) (rarest p)).
    let it : IsRarest p (rarest p) = record {
      offset = t.offset;
      inside = t.inside;
      here = t.here;
      least = t.least;
      earliest = t.earliest;
    } in it)
    (rarest_from p (slice_index p 0))
