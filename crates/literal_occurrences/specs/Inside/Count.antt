-- Counts of every occurrence.
use Rattle.std.specs.Prelude.{◌≡◌, ℕ, ◌+◌, ◌-◌, ◌*◌, ◌<◌, ◌≤◌, ◌^◌, List, Result, length, min, slice_index}
use Rattle.std.specs.List.{All, AllPairs, IsAmong}
use Rattle.std.specs.Result.{IsOkAnd}
use Rattle.literal_base.specs.MatchValue.{MatchValue}
use Rattle.literal_base.specs.declared.search.Span.{Span}
use Rattle.literal_occurrences.specs.Inside.NextEnd.{IsWalkAt}
use Rattle.literal_rows.specs.Inside.Rows.{rows_of}
use Rattle.literal_occurrences.specs.Overlapping.{ComesBefore, IsOccurrence, OverlappingValue}
use Rattle.literal_occurrences.specs.PreparedOverlapping.{Tables, overlapping_value}
use Rattle.literal_occurrences.specs.declared.count.Counted.{Counted}
use Rattle.literal_leftmost.specs.declared.lanes.Lanes.{Lanes}
use Rattle.literal_rows.specs.declared.damaged.Damaged.{Damaged}
use Rattle.literal_occurrences.specs.declared.prepared_overlapping.LentTables.{LentTables}

-- the number of occurrences in a span that end after one offset and up to another
pub record CountsBetween (search : OverlappingValue) (haystack : List ℕ) (span : Span) (from to count : ℕ)
    : Type 0 where
  pub all : List MatchValue
  pub each : All (λ found. IsOccurrence search.patterns search.ignore_case haystack span found
      × (from < found.end) × (found.end ≤ to)) all
  pub ordered : AllPairs ComesBefore all
  pub every : (found : MatchValue) → IsOccurrence search.patterns search.ignore_case haystack span found
      → from < found.end → found.end ≤ to → IsAmong all found
  pub count_is : count ≡ length all

-- a walk is at an offset, in a state that covers every occurrence in the span that ends after `start`
abbrev pub IsWalk : Tables → List ℕ → Span → ℕ → ℕ → ℕ → Type 0
IsWalk t haystack span start at row =
    IsWalkAt t.patterns t.ignore_case t.classes t.width t.rows haystack span start (record { row = row; end = at })

-- a walk is at an offset, in a state that covers every occurrence in the span that ends later
abbrev pub IsAfter : Tables → List ℕ → Span → ℕ → ℕ → Type 0
IsAfter t haystack span at row = IsWalk t haystack span at at row

-- what has been counted is what ends up to an offset of the span, and a walk is there, unless it is the span's end
pub record HasCounted (t : Tables) (haystack : List ℕ) (span : Span) (c : Counted) : Type 0 where
  pub counts : CountsBetween (overlapping_value t) haystack span span.start c.at c.count
  pub walk : c.at < span.end → IsAfter t haystack span c.at c.row

-- a count is at an offset of the span. The index of its row is below 2^32, and adding to it does not overflow
pub record IsWalking (span : Span) (c : Counted) : Type 0 where
  pub after : span.start ≤ c.at
  pub inside : c.at ≤ span.end
  pub small : c.row < 2 ^ 32
  pub few : c.count ≤ (c.at - span.start) * (2 ^ 64 - 1)

-- four adjacent parts of the span from an offset on, none of them shorter than the longest pattern
pub record IsFour (longest : ℕ) (span : Span) (at part : ℕ) : Type 0 where
  pub some : 0 < part
  pub long : longest ≤ part
  pub inside : at + 4 * part ≤ span.end

-- the indices of rows are below this limit, and after each there is a number for any class
pub record IsRowLimit (p : LentTables) (limit : ℕ) : Type 0 where
  pub some : 0 < limit
  pub is : limit ≡ min (length (rows_of p.header.rows.now)) (2 ^ 31)
  pub fits : limit + 256 ≤ length p.header.rows.now

-- four walks are in four adjacent parts, each after the first `step` bytes of its part
pub record AreAfter (t : Tables) (haystack : List ℕ) (span : Span) (at part step : ℕ) (l : Lanes) : Type 0 where
  pub first : IsAfter t haystack span (at + step) l.first
  pub second : IsAfter t haystack span (at + part + step) l.second
  pub third : IsAfter t haystack span (at + 2 * part + step) l.third
  pub fourth : IsAfter t haystack span (at + 3 * part + step) l.fourth

-- what ends in the first `step` bytes of four adjacent parts has been added to a count
pub record CountFour (search : OverlappingValue) (haystack : List ℕ) (span : Span) (at part step old new : ℕ)
    : Type 0 where
  pub first : ℕ
  pub second : ℕ
  pub third : ℕ
  pub fourth : ℕ
  pub in_first : CountsBetween search haystack span at (at + step) first
  pub in_second : CountsBetween search haystack span (at + part) (at + part + step) second
  pub in_third : CountsBetween search haystack span (at + 2 * part) (at + 2 * part + step) third
  pub in_fourth : CountsBetween search haystack span (at + 3 * part) (at + 3 * part + step) fourth
  pub total : new ≡ old + first + second + third + fourth

-- the length of the list of the pattern that a row names, if row and list lie in the tables
abbrev pub IsListedAt : Tables → ℕ → Result ℕ Damaged → Type 0
IsListedAt t row result =
    row + t.width < length t.rows → slice_index t.rows (row + t.width) + 1 < length t.starts
    → IsOkAnd result (λ count. count ≡ slice_index t.starts (slice_index t.rows (row + t.width) + 1)
    - slice_index t.starts (slice_index t.rows (row + t.width)))
