-- An iteration over everything that occurs gives each occurrence once, in order.
use Rattle.std.proofs.Common.{◌≡◌, ℕ, List, [], ◌∷◌, get_or, suc, zero, None, Some, inl, inr, ◌⊎◌, subst, arith}
use Rattle.std.specs.Iterator.{Yields}
use Rattle.std.specs.List.{All, AllPairs, IsAmong}
use Rattle.literal_base.specs.declared.search.Span.{Span}
use Rattle.literal_base.specs.MatchValue.{MatchValue}
use Rattle.literal_occurrences.specs.Overlapping.{ComesBefore, IsOverlapping, OverlappingValue}
use Rattle.literal_occurrences.specs.OverlappingMatchesValue.{GivesOverlapping, IsNextToCome, IsToCome}
use Rattle.literal_occurrences.specs.OverlappingMatchesValue.{OverlappingMatchesValue, gone_on}

module _ (m : OverlappingMatchesValue) (found : MatchValue) (next : IsNextToCome m found) where
  -- what is to come behind what is next comes behind it
  later_to_come : (other : MatchValue) → IsToCome (gone_on m (Some found)) other
      → IsToCome m other × ComesBefore found other
  later_to_come other is = grind arith

  -- and all else that is to come is what is next
  to_come_later : (other : MatchValue) → IsToCome m other
      → (other ≡ found) ⊎ IsToCome (gone_on m (Some found)) other
  to_come_later other is = grind arith

-- what an iteration gives from an offset on
record IsRest (m : OverlappingMatchesValue) (all : List MatchValue) : Type 0 where
  each : All (IsToCome m) all
  ordered : AllPairs ComesBefore all
  every : (found : MatchValue) → IsToCome m found → IsAmong all found

one_more : (m : OverlappingMatchesValue) (found : MatchValue) (more : List MatchValue) → IsNextToCome m found
    → IsRest (gone_on m (Some found)) more → IsRest m (found ∷ more)
one_more m found more next rest = record {
  each = each;
  ordered = ordered;
  every = λ other is. elim (to_come_later m found next other is) [
    | inl same ↦ (0, (omega arith, same))
    | inr later ↦
        let one = rest.every other later in
        (suc one.0, (omega (arith, one.1.0), one.1.1))
  ];
}
  where
    each : All (IsToCome m) (found ∷ more)
    each zero d below = next.to_come
    each (suc k) d below = (later_to_come m found next (get_or more k d) (rest.each k d (omega arith))).0

    ordered : AllPairs ComesBefore (found ∷ more)
    ordered zero zero d before below = absurd (omega arith)
    ordered zero (suc j) d before below = grind (arith, later_to_come)
    ordered (suc i) zero d before below = absurd (omega arith)
    ordered (suc i) (suc j) d before below = rest.ordered i j d (omega arith) (omega arith)

rest_from_yields : (m : OverlappingMatchesValue) (all : List MatchValue) (n o : OverlappingMatchesValue)
    → Yields GivesOverlapping m all n → GivesOverlapping n None o → IsRest m all
rest_from_yields m [] n o stays nothing = grind arith
rest_from_yields m (found ∷ more) n o run nothing =
    one_more m found more run.1.gives
    (grind (arith, rest_from_yields run.0 more n o run.2 nothing))

-- from the start of a span on it gives all
pub overlapping_from_yields : (search : OverlappingValue) (haystack : List ℕ) (span : Span)
    (m : OverlappingMatchesValue) (all : List MatchValue) (n o : OverlappingMatchesValue)
    → m ≡ record { search = search; haystack = haystack; span = span; end = span.start; pattern = 0 }
    → Yields GivesOverlapping m all n → GivesOverlapping n None o
    → IsOverlapping search.patterns search.ignore_case haystack span all
overlapping_from_yields search haystack span m all n o start run nothing =
    let rest = subst (λ (v : OverlappingMatchesValue). IsRest v all) start (rest_from_yields m all n o run nothing) in
    grind arith
