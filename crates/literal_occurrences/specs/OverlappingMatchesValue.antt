-- An iteration over every occurrence: `OverlappingMatches`, as contracts see it.
use Rattle.std.specs.Prelude.{◌≡◌, ◌⊎◌, ℕ, ◌+◌, ◌*◌, ◌-◌, ◌<◌, ◌≤◌, List, length, Option, None, Some, MatchOption}
use Rattle.std.specs.Iterator.{Count, at_most}
use Rattle.literal_base.specs.declared.search.Span.{Span}
use Rattle.literal_base.specs.MatchValue.{MatchValue}
use Rattle.literal_occurrences.specs.Overlapping.{ComesBefore, IsOccurrence, OverlappingValue}

-- an `OverlappingMatches` as contracts see it: the search, the haystack, the span, and the end and pattern number from
-- which it continues
pub record OverlappingMatchesValue : Type 0 where
  pub search : OverlappingValue
  pub haystack : List ℕ
  pub span : Span
  pub end : ℕ
  pub pattern : ℕ

-- an iteration over every occurrence in a span, which has not begun
abbrev pub occurrences_in : OverlappingValue → List ℕ → Span → OverlappingMatchesValue
occurrences_in search haystack span =
    record { search = search; haystack = haystack; span = span; end = span.start; pattern = 0 }

-- an occurrence is still to come: it ends later, or at the same end and has that pattern number or a greater one
pub record IsToCome (m : OverlappingMatchesValue) (found : MatchValue) : Type 0 where
  pub occurrence : IsOccurrence m.search.patterns m.search.ignore_case m.haystack m.span found
  pub after : (m.end < found.end) ⊎ ((m.end ≡ found.end) × (m.pattern ≤ found.pattern))

-- the first occurrence that is still to come
pub record IsNextToCome (m : OverlappingMatchesValue) (found : MatchValue) : Type 0 where
  pub to_come : IsToCome m found
  pub first : (other : MatchValue) → IsToCome m other → ¬ ComesBefore other found

-- where it continues: after the occurrence that it gave, or after all
abbrev pub gone_on : OverlappingMatchesValue → Option MatchValue → OverlappingMatchesValue
gone_on m None = record m { end = m.span.end; pattern = length m.search.patterns }
gone_on m (Some found) = record m { end = found.end; pattern = found.pattern + 1 }

-- the answer of `next`: the first occurrence that is to come, or None if there is none
pub record GivesOverlapping (old : OverlappingMatchesValue) (answer : Option MatchValue)
    (new : OverlappingMatchesValue) : Type 0 where
  pub gives : MatchOption answer ((found : MatchValue) → ¬ IsToCome old found) (IsNextToCome old)
  pub goes_on : new ≡ gone_on old answer

-- an upper bound on the occurrences to come: each pattern once at each end
abbrev pub most_overlapping : OverlappingMatchesValue → Count
most_overlapping m =
    at_most ((m.span.end - m.end) * length m.search.patterns + (length m.search.patterns - m.pattern))
