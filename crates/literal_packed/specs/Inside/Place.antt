-- The patterns at one offset of a haystack.
use Rattle.std.specs.Prelude.{ℕ, ◌<◌, Bool, List, length, Option, None, Some}
use Rattle.literal_base.specs.Occurs.{StandsAt, pattern_at}
use Rattle.literal_base.specs.Leftmost.{IsBetter}
use Rattle.literal_base.specs.Query.{Query}
use Rattle.literal_packed.specs.Pairs.{pairs_at, pairs_at_up_to}

-- no pattern is at the offset
abbrev pub NoneStandsAt : List (List ℕ) → Bool → List ℕ → ℕ → Type 0
NoneStandsAt patterns ignore_case haystack at =
    (i : ℕ) → i < length patterns → ¬ StandsAt ignore_case (pattern_at patterns i) haystack at

-- pattern i is at the offset, and none that is preferred to it is. This is about all patterns, and without a span: the
-- haystack ends with it
pub record IsBestAt (query : Query) (ignore_case : Bool) (haystack : List ℕ) (at i : ℕ) : Type 0 where
  pub is_pattern : i < length query.patterns
  pub stands : StandsAt ignore_case (pattern_at query.patterns i) haystack at
  pub best : (j : ℕ) → j < length query.patterns → IsBetter query.kind query.patterns j i
      → ¬ StandsAt ignore_case (pattern_at query.patterns j) haystack at

-- the number of patterns that pass a test at an offset: all that do or, if there is an answer, those up to its pattern
abbrev pub pairs_answered : (ℕ → ℕ → Bool) → Query → ℕ → Option ℕ → ℕ
pairs_answered test query at None = pairs_at test (length query.patterns) at
pairs_answered test query at (Some j) = pairs_at_up_to test query at j
