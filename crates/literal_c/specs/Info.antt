-- What a prepared array tells of its search.
use Rattle.std.specs.Prelude.{◌≡◌, ◌⊎◌, ℕ, List, length, slice_index}
use Rattle.literal_search.specs.Prepared.{HasAllParts, kind_in}
use Rattle.literal_search.specs.PreparedOverlapping.{HasLists}
use Rattle.literal_search.specs.SearchValue.{longest_of, shortest_of}
use Rattle.literal_c.specs.Arguments.{number_of}
use Rattle.literal_c.specs.declared.info.LiteralInfo.{LiteralInfo}

-- the number of patterns, the lengths of the shortest and of the longest one, whether (1) or not (0) the search is for
-- every occurrence, and the number of its match kind, or 0
pub record IsInfo (patterns : List (List ℕ)) (is_overlapping match_kind : ℕ) (info : LiteralInfo) : Type 0 where
  pub number : info.patterns ≡ length patterns
  pub shortest : info.shortest ≡ shortest_of patterns
  pub longest : info.longest ≡ longest_of patterns
  pub overlapping : info.is_overlapping ≡ is_overlapping
  pub kind : info.kind ≡ match_kind

-- the array has the parts of a search for every occurrence (1, and 0 for the kind, which it has none of), or of one for
-- leftmost matches (0, and the number of the match kind that the array says)
abbrev pub IsOfKind : List ℕ → ℕ → ℕ → Type 0
IsOfKind numbers is_overlapping kind =
    ((is_overlapping ≡ 0) × (kind ≡ number_of (kind_in numbers)) × HasAllParts numbers)
    ⊎ ((is_overlapping ≡ 1) × (kind ≡ 0) × HasLists numbers)

-- what holds by any array: the number of patterns is its fourth number, the length of the longest its sixth, and it has
-- the parts of a search of this kind
pub record MayBeInfo (numbers : List ℕ) (info : LiteralInfo) : Type 0 where
  pub number : info.patterns ≡ slice_index numbers 3
  pub longest : info.longest ≡ slice_index numbers 5
  pub kind : IsOfKind numbers info.is_overlapping info.kind
