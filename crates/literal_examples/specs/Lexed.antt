-- A text as a sequence of words.
use Rattle.std.specs.Prelude.{◌≡◌, ℕ, List, [], ◌∷◌, None, Some}
use Rattle.literal_base.specs.MatchValue.{MatchValue}
use Rattle.literal_search.specs.At.{IsMatchAt}
use Rattle.literal_search.specs.SearchValue.{SearchValue}

-- from an offset on, the tokens are matches that each begin where the previous one ends, up to the offset where none
-- begins
abbrev pub IsLexed : SearchValue → List ℕ → ℕ → List MatchValue → ℕ → Type 0
IsLexed words text at [] end = (end ≡ at) × IsMatchAt words.query words.ignore_case text at None
IsLexed words text at (found ∷ more) end =
    IsMatchAt words.query words.ignore_case text at (Some found) × IsLexed words text found.end more end
