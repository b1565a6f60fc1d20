-- The number of matches.
use Rattle.std.specs.Prelude.{◌≡◌, ◌∷◌, [], ℕ, Bool, List, false, length}
use Rattle.literal_base.specs.Greedy.{IsGreedyIn}
use Rattle.literal_base.specs.MatchValue.{MatchValue}
use Rattle.literal_base.specs.Query.{Query}
use Rattle.literal_base.specs.declared.search.Span.{Span}

-- the number of the matches of a span that do not overlap: of those of its greedy list
abbrev pub IsGreedyCount : Query → Bool → List ℕ → Span → ℕ → Type 0
IsGreedyCount query ignore_case haystack span count =
    (all : List MatchValue) × IsGreedyIn query ignore_case haystack span all × (count ≡ length all)

-- the only pattern of a list is one byte, and case is kept
abbrev pub IsOnlyByte : ℕ → Bool → List (List ℕ) → Type 0
IsOnlyByte byte ignore_case patterns = (patterns ≡ (byte ∷ []) ∷ []) × (ignore_case ≡ false)
