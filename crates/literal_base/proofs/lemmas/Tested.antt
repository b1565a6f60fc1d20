-- Whether a list of matches is the greedy one, as a test: with case kept, and for the kind by which the pattern added
-- first is taken.
-- For callers.
use Rattle.std.proofs.Common.{◌≡◌, ◌==◌, ℕ, ◌+◌, ◌<◌, ◌&&◌, ◌||◌, Bool, true, false, not, List, [], ◌∷◌, length, arith}
use Rattle.std.proofs.Common.{nat_lt, nat_le, slice_range, zero, suc, inl, inr, sym, ap, subst, ◌∙◌}
use Rattle.std.specs.Str.{bytes_eq}
use Rattle.std.proofs.lemmas.Bool.{and_parts, cases_lt, eqb-true, leb-true, ltb-true, false≢true, le-ltb}
use Rattle.std.proofs.lemmas.Slice.Eq.{bytes_eq-Decides}
use Rattle.literal_base.specs.declared.packed.MatchKind.TheVariants.{LeftmostFirst}
use Rattle.literal_base.specs.Greedy.{IsGreedy}
use Rattle.literal_base.specs.MatchValue.{MatchValue}
use Rattle.literal_base.specs.Occurs.{Occurs, pattern_at, rest_from}

-- a test holds of each number below n
abbrev pub all_below : (ℕ → Bool) → ℕ → Bool
all_below p zero = true
all_below p (suc n) = p n && all_below p n

each_below : (p : ℕ → Bool) (n : ℕ) → all_below p n ≡ true → (k : ℕ) → k < n → p k ≡ true
each_below p zero all k below = absurd (omega arith)
each_below p (suc n) all k below =
    let parts = and_parts (p n) (all_below p n) all in
    elim (cases_lt k n) [
      | inl less ↦ each_below p n parts.1 k less
      | inr last ↦ let same : n ≡ k = omega arith in subst (λ j. p j ≡ true) same parts.0
    ]

module _ (patterns : List (List ℕ)) (haystack : List ℕ) where
  -- the pattern of a number does not stand at a place
  abbrev pub differs : ℕ → ℕ → Bool
  differs at i =
      not (bytes_eq (slice_range haystack at (at + length (pattern_at patterns i))) (pattern_at patterns i))

  -- no pattern stands at a place from one up to another
  abbrev pub is_free : ℕ → ℕ → Bool
  is_free from to = all_below (λ at. nat_lt at from || all_below (differs at) (length patterns)) to

  -- the match is the leftmost from a place on
  abbrev pub is_match : ℕ → MatchValue → Bool
  is_match from found =
      let long = length (pattern_at patterns found.pattern) in
      nat_lt found.pattern (length patterns) && (nat_le from found.start && (nat_le found.end (length haystack)
      && (found.end == found.start + long && (not (differs found.start found.pattern)
      && (all_below (differs found.start) found.pattern && is_free from found.start)))))

  -- the list is the greedy one from a place on
  abbrev pub is_greedy : ℕ → List MatchValue → Bool
  is_greedy from [] = is_free from (length haystack + 1)
  is_greedy from (found ∷ more) = is_match from found && is_greedy found.end more

  differs_not : (at i from : ℕ) → differs at i ≡ true → ¬ Occurs patterns false haystack (rest_from haystack from) i at
  differs_not at i from differ o = false≢true (sym (ap not ((bytes_eq-Decides _ _).1 o.same)) ∙ differ)

  free_not : (from to : ℕ) → is_free from to ≡ true → (i at : ℕ) → at < to
      → ¬ Occurs patterns false haystack (rest_from haystack from) i at
  free_not from to free i at before o =
      let here = each_below (λ at. nat_lt at from || all_below (differs at) (length patterns)) to free at before in
      let none : all_below (differs at) (length patterns) ≡ true =
      subst (λ b. (b || all_below (differs at) (length patterns)) ≡ true) (le-ltb at from o.after_start) here in
      differs_not at i from (each_below (differs at) (length patterns) none i o.is_pattern) o

  stands_there : (at i : ℕ) → not (differs at i) ≡ true
      → slice_range haystack at (at + length (pattern_at patterns i)) ≡ pattern_at patterns i
  stands_there at i same = (bytes_eq-Decides _ _).0 (twice _ same)
    where
      twice : (b : Bool) → not (not b) ≡ true → b ≡ true
      twice true h = h
      twice false h = h

  pub greedy_if_tested : (from : ℕ) (all : List MatchValue) → is_greedy from all ≡ true
      → IsGreedy (record { kind = LeftmostFirst; patterns = patterns }) false haystack from all
  greedy_if_tested from [] free =
      λ i at o. free_not from (length haystack + 1) free i at (omega (arith, o.before_end)) o
  greedy_if_tested from (found ∷ more) tested =
      let rest = and_parts _ _ tested in
      let p1 = and_parts _ _ rest.0 in
      let p2 = and_parts _ _ p1.1 in
      let p3 = and_parts _ _ p2.1 in
      let p4 = and_parts _ _ p3.1 in
      let p5 = and_parts _ _ p4.1 in
      let p6 = and_parts _ _ p5.1 in
      let ends : found.end ≡ found.start + length (pattern_at patterns found.pattern) = eqb-true _ _ p4.0 in (
        record {
          occurs = record {
            is_pattern = ltb-true _ _ p1.0;
            after_start = leb-true _ _ p2.0;
            before_end = omega (arith, leb-true _ _ p3.0);
            same = stands_there found.start found.pattern p5.0;
          };
          whole = ends;
          earliest = λ i at before. free_not from found.start p6.1 i at before;
          best = λ i better. differs_not found.start i from
              (each_below (differs found.start) found.pattern p6.0 i better);
        },
        greedy_if_tested found.end more rest.1,
      )
