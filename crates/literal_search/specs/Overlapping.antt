-- How a search for every occurrence is built.
use Rattle.std.specs.Prelude.{◌≡◌, ℕ, Bool, List, Option}
use Rattle.std.specs.Borrow.{Bor}
use Rattle.literal_search.specs.SearchValue.{GivesAll}
use Rattle.literal_occurrences.specs.Overlapping.{OverlappingValue}
pub use Rattle.literal_occurrences.specs.Overlapping.{AreAllThat, ComesBefore, IsOccurrence, IsOverlapping}
pub use Rattle.literal_occurrences.specs.Overlapping.{IsOverlappingCount, OverlappingValue}

-- the answer is the search for all patterns that an iterator gives, which can be kept
abbrev pub BuildsOverlapping : {U T : Type 0} → (U → T → Type 0) → (T → Option (Bor (List ℕ)) → T → Type 0) → U → Bool
    → OverlappingValue → Type 0
BuildsOverlapping becomes steps given ignore_case answer =
    (patterns : List (List ℕ)) × GivesAll becomes steps given patterns
    × (answer ≡ record { patterns = patterns; ignore_case = ignore_case })
