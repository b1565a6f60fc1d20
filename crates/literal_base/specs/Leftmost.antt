-- The answer of a search in a span.
use Rattle.std.specs.Prelude.{◌≡◌, ℕ, ◌+◌, ◌<◌, ◌⊎◌, ◌==◌, ◌&&◌, ◌||◌, Bool, List, length, nat_lt, Option, MatchOption}
use Rattle.literal_base.specs.declared.packed.MatchKind.{MatchKind}
use Rattle.literal_base.specs.declared.packed.MatchKind.TheVariants.{LeftmostFirst, LeftmostLongest}
use Rattle.literal_base.specs.declared.search.Span.{Span}
use Rattle.literal_base.specs.MatchValue.{MatchValue}
use Rattle.literal_base.specs.Query.{Query}
use Rattle.literal_base.specs.Occurs.{pattern_at, Occurs, NothingOccurs}

-- the tie rule: of two patterns that occur at one offset, i is preferred to j. With `LeftmostFirst`, i is the smaller
-- number. With `LeftmostLongest`, i is longer, or has the same length and the smaller number
abbrev pub IsBetter : MatchKind → List (List ℕ) → ℕ → ℕ → Type 0
IsBetter LeftmostFirst patterns i j = i < j
IsBetter LeftmostLongest patterns i j =
    (length (pattern_at patterns j) < length (pattern_at patterns i))
    ⊎ ((length (pattern_at patterns i) ≡ length (pattern_at patterns j)) × (i < j))

-- the tie rule as a test
abbrev pub is_better : MatchKind → List (List ℕ) → ℕ → ℕ → Bool
is_better LeftmostFirst patterns i j = nat_lt i j
is_better LeftmostLongest patterns i j =
    nat_lt (length (pattern_at patterns j)) (length (pattern_at patterns i))
    || (length (pattern_at patterns i) == length (pattern_at patterns j) && nat_lt i j)

-- the match is an occurrence, whole in the span. No pattern occurs in the span at an earlier offset, and none that the
-- tie rule prefers occurs at the same offset
pub record IsLeftmostMatch (query : Query) (ignore_case : Bool) (haystack : List ℕ) (span : Span) (found : MatchValue)
    : Type 0 where
  pub occurs : Occurs query.patterns ignore_case haystack span found.pattern found.start
  pub whole : found.end ≡ found.start + length (pattern_at query.patterns found.pattern)
  pub earliest : (i at : ℕ) → at < found.start → ¬ Occurs query.patterns ignore_case haystack span i at
  pub best : (i : ℕ) → IsBetter query.kind query.patterns i found.pattern
      → ¬ Occurs query.patterns ignore_case haystack span i found.start

-- the answer is None exactly if nothing occurs in the span, and otherwise the leftmost match
abbrev pub IsLeftmost : Query → Bool → List ℕ → Span → Option MatchValue → Type 0
IsLeftmost query ignore_case haystack span answer =
    MatchOption answer (NothingOccurs query.patterns ignore_case haystack span)
    (IsLeftmostMatch query ignore_case haystack span)
