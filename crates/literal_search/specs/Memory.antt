-- The memory of a search: its rows and lists, and its patterns.
use Rattle.std.specs.Prelude.{◌≡◌, ℕ, ◌+◌, ◌*◌, length, sum_by}
use Rattle.literal_search.specs.Overlapping.{OverlappingValue}
use Rattle.literal_search.specs.Prepared.{TakesPlaces}
use Rattle.literal_search.specs.PreparedOverlapping.{TakesListedPlaces}
use Rattle.literal_search.specs.SearchValue.{SearchValue}

-- the bytes that a search for leftmost matches takes: 4 for each of its numbers, and those of its patterns
abbrev pub TakesBytes : SearchValue → ℕ → Type 0
TakesBytes search bytes = (places : ℕ) × TakesPlaces search places
    × (bytes ≡ 4 * places + sum_by length search.query.patterns)

-- the same for a search for every occurrence
abbrev pub TakesListedBytes : OverlappingValue → ℕ → Type 0
TakesListedBytes search bytes =
    (places : ℕ) × TakesListedPlaces search places × (bytes ≡ 4 * places + sum_by length search.patterns)
