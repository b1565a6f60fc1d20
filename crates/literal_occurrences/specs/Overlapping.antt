-- Every occurrence, in the order of ends, and the search for it as contracts see it.
use Rattle.std.specs.Prelude.{◌≡◌, ◌⊎◌, ℕ, ◌+◌, ◌<◌, Bool, List, length, true}
use Rattle.std.specs.List.{All, AllPairs, IsAmong}
use Rattle.literal_base.specs.declared.search.Span.{Span}
use Rattle.literal_base.specs.MatchValue.{MatchValue}
use Rattle.literal_base.specs.Occurs.{Occurs, pattern_at}

-- a match is an occurrence, whole in the span
pub record IsOccurrence (patterns : List (List ℕ)) (ignore_case : Bool) (haystack : List ℕ) (span : Span)
    (found : MatchValue) : Type 0 where
  pub occurs : Occurs patterns ignore_case haystack span found.pattern found.start
  pub whole : found.end ≡ found.start + length (pattern_at patterns found.pattern)

-- one occurrence comes before another: it ends earlier, or at the same offset and has the smaller pattern number
abbrev pub ComesBefore : MatchValue → MatchValue → Type 0
ComesBefore one other = (one.end < other.end) ⊎ ((one.end ≡ other.end) × (one.pattern < other.pattern))

-- the list has every occurrence in the span once, in that order
pub record IsOverlapping (patterns : List (List ℕ)) (ignore_case : Bool) (haystack : List ℕ) (span : Span)
    (all : List MatchValue) : Type 0 where
  pub each : All (IsOccurrence patterns ignore_case haystack span) all
  pub ordered : AllPairs ComesBefore all
  pub every : (found : MatchValue) → IsOccurrence patterns ignore_case haystack span found → IsAmong all found

-- the number of all occurrences in the span
abbrev pub IsOverlappingCount : List (List ℕ) → Bool → List ℕ → Span → ℕ → Type 0
IsOverlappingCount patterns ignore_case haystack span count =
    (all : List MatchValue) × IsOverlapping patterns ignore_case haystack span all × (count ≡ length all)

-- the list has every occurrence in the span that passes a test once, in that order
pub record AreAllThat (test : MatchValue → Bool) (patterns : List (List ℕ)) (ignore_case : Bool) (haystack : List ℕ)
    (span : Span) (all : List MatchValue) : Type 0 where
  pub each : All (IsOccurrence patterns ignore_case haystack span) all
  pub pass : All (λ found. test found ≡ true) all
  pub ordered : AllPairs ComesBefore all
  pub every : (found : MatchValue) → IsOccurrence patterns ignore_case haystack span found → test found ≡ true
      → IsAmong all found

-- an `Overlapping` as contracts see it: the patterns, and whether ASCII case is ignored
pub record OverlappingValue : Type 0 where
  pub patterns : List (List ℕ)
  pub ignore_case : Bool
