-- An iteration over the matches at all offsets of a line.
use Rattle.std.specs.Prelude.{◌≡◌, ℕ, ◌≤◌, List, length}
use Rattle.literal_search.specs.MatchesValue.{MatchesValue}
use Rattle.literal_search.specs.SearchValue.{SearchValue}

-- an iteration is over a line, and continues at an offset or before
pub record IsAlong (search : SearchValue) (line : List ℕ) (at : ℕ) (m : MatchesValue) : Type 0 where
  pub search_is : m.search ≡ search
  pub haystack_is : m.haystack ≡ line
  pub end_is : m.span.end ≡ length line
  pub before : m.at ≤ at
