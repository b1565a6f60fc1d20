-- A search for every occurrence as the numbers of a lent array.
use Rattle.std.specs.Prelude.{◌≡◌, ◌⊎◌, ◌+◌, ◌<◌, ◌≤◌, ℕ, Bool, List, length, map, slice_index, slice_range}
use Rattle.literal_base.specs.declared.search.Span.{Span}
use Rattle.literal_leftmost.specs.SearchValue.{CanBeKept, HoldsInClasses, longest_of, width_for}
use Rattle.literal_rows.specs.Inside.Classes.{AreClasses, Tells, symbols_in}
use Rattle.literal_rows.specs.Inside.Lists.{AreLists}
use Rattle.literal_occurrences.specs.Overlapping.{OverlappingValue}
use Rattle.literal_occurrences.specs.OverlappingMatchesValue.{OverlappingMatchesValue}
use Rattle.literal_leftmost.specs.Prepared.{HasParts, WritesNumbers, check_of, classes_end, ArePrints, classes_in}
use Rattle.literal_leftmost.specs.Prepared.{lengths_in, longest_in, rows_in, width_in}
use Rattle.literal_rows.specs.States.{IsRowsLength}
use Rattle.literal_rows.specs.Table.{Recognises}
use Rattle.literal_rows.specs.declared.classes.TheConstants.{CLASSES_LEN}
use Rattle.literal_rows.specs.declared.array.ArrayTooShort.{ArrayTooShort}
use Rattle.literal_rows.specs.declared.array.TheConstants.{SCAN_LEN, LENGTHS_AT, OVERLAPPING_VERSION}

-- the tables of a search for every occurrence: byte classes, rows, for each pattern a list of the patterns that are its
-- suffixes, all in one list, and the index at which each begins
pub record Tables : Type 0 where
  pub patterns : List (List ℕ)
  pub ignore_case : Bool
  pub classes : List ℕ
  pub width : ℕ
  pub rows : List ℕ
  pub ends : List ℕ
  pub starts : List ℕ

-- the search to which the tables belong, as contracts see it
abbrev pub overlapping_value : Tables → OverlappingValue
overlapping_value t = record { patterns = t.patterns; ignore_case = t.ignore_case }

-- the patterns as texts of classes
abbrev pub texts_in : Tables → List (List ℕ)
texts_in t = map (symbols_in t.classes) t.patterns

-- each byte has a class, which distinguishes the bytes of the patterns. The rows are those of the patterns' texts in
-- these classes, the lists are those of the patterns that are suffixes of a pattern, and no pattern is empty
pub record AreTables (t : Tables) : Type 0 where
  pub classes : AreClasses t.classes t.width
  pub tells : Tells t.ignore_case t.classes t.patterns
  pub recognises : Recognises (texts_in t) t.width t.rows
  pub lists : AreLists (texts_in t) t.ends t.starts (length t.patterns)
  pub kept : CanBeKept t.patterns

-- there are as many classes and rows as the patterns need
pub record AreSized (t : Tables) : Type 0 where
  pub width : t.width ≡ width_for t.ignore_case t.patterns
  pub rows : IsRowsLength (texts_in t) t.width (length t.rows)

-- the index at which the lists begin, after a number for each pattern that says where its list begins, and one more
abbrev pub ends_at : List ℕ → ℕ
ends_at numbers = classes_end numbers + slice_index numbers 3 + 1

-- the index at which the lists end. The last number before them is their length
abbrev pub listed_len : List ℕ → ℕ
listed_len numbers = ends_at numbers + slice_index numbers (classes_end numbers + slice_index numbers 3)

-- where each list begins, and where the last ends
abbrev pub starts_in : List ℕ → List ℕ
starts_in numbers = slice_range numbers (classes_end numbers) (ends_at numbers)

-- the lists
abbrev pub ends_in : List ℕ → List ℕ
ends_in numbers = slice_range numbers (ends_at numbers) (listed_len numbers)

-- the number of entries of the search. The scan for candidates comes last, after the lists
abbrev pub overlapping_len : List ℕ → ℕ
overlapping_len numbers = listed_len numbers + SCAN_LEN

-- the numbers of its scan for candidates
abbrev pub prints_after : List ℕ → List ℕ
prints_after numbers = slice_range numbers (listed_len numbers) (overlapping_len numbers)

-- the array has the parts of a search for every occurrence, and is at least as long as they say
pub record HasLists (numbers : List ℕ) : Type 0 where
  pub parts : HasParts OVERLAPPING_VERSION numbers
  pub fits : overlapping_len numbers ≤ length numbers

-- the array has the parts of `HasLists`, and the second number is the checksum of the search's numbers after it
pub record IsWholeOverlapping (numbers : List ℕ) : Type 0 where
  pub lists : HasLists numbers
  pub check : slice_index numbers 1 ≡ check_of (slice_range numbers 2 (overlapping_len numbers))

-- the tables in an array
abbrev pub tables_in : OverlappingValue → List ℕ → Tables
tables_in search numbers = record {
  patterns = search.patterns;
  ignore_case = search.ignore_case;
  classes = classes_in numbers;
  width = width_in numbers;
  rows = rows_in numbers;
  ends = ends_in numbers;
  starts = starts_in numbers;
}

-- the array begins with a whole search for every occurrence: with the length of the longest pattern, its tables, the
-- length of each pattern, and a scan that stops at each pattern, if there is one
pub record IsPreparedOverlapping (search : OverlappingValue) (numbers : List ℕ) : Type 0 where
  pub whole : IsWholeOverlapping numbers
  pub longest : longest_in numbers ≡ longest_of search.patterns
  pub tables : AreTables (tables_in search numbers)
  pub lengths : lengths_in numbers ≡ map (λ bytes. length bytes) search.patterns
  pub prints : ArePrints search.patterns search.ignore_case (prints_after numbers)

-- a property holds of every search for every occurrence for which the array is prepared
abbrev pub ForOverlapping : List ℕ → (OverlappingValue → Type 0) → Type 0
ForOverlapping numbers P = (search : OverlappingValue) → IsPreparedOverlapping search numbers → P search

-- the number of entries that a search takes: the header, one for each pattern, the rows of all states, the classes, the
-- lists and where they begin, and the scan for candidates
unfoldable pub TakesListedPlaces : OverlappingValue → ℕ → Type 0
TakesListedPlaces search needed =
    HoldsInClasses (λ texts width. (rows : ℕ) × IsRowsLength texts width rows
    × (ends : List ℕ) × (starts : List ℕ) × AreLists texts ends starts (length search.patterns)
    × (needed ≡ LENGTHS_AT + length search.patterns + rows + CLASSES_LEN + length starts + length ends
    + SCAN_LEN)) search.ignore_case search.patterns

-- the search is written into the first entries of an array
abbrev pub WritesOverlapping : OverlappingValue → List ℕ → List ℕ → ℕ → Type 0
WritesOverlapping search = WritesNumbers (IsPreparedOverlapping search) (TakesListedPlaces search)

-- why an array is refused: it has fewer entries than the search takes. An array with just these entries would be long
-- enough
abbrev pub RefusesOverlapping : OverlappingValue → List ℕ → ArrayTooShort → Type 0
RefusesOverlapping search array error =
    (length array < error.needed) × TakesListedPlaces search error.needed
    × ((numbers : List ℕ) × IsPreparedOverlapping search numbers × (length numbers ≡ error.needed))

-- a `PreparedOverlappingMatches` as contracts see it: the array, the haystack, the span, and the end and pattern number
-- from which it continues
pub record PreparedOverlappingMatchesValue : Type 0 where
  pub numbers : List ℕ
  pub haystack : List ℕ
  pub span : Span
  pub end : ℕ
  pub pattern : ℕ

-- the same iteration by a search for which the array is prepared
abbrev pub matches_for : OverlappingValue → PreparedOverlappingMatchesValue → OverlappingMatchesValue
matches_for search m =
    record { search = search; haystack = m.haystack; span = m.span; end = m.end; pattern = m.pattern }

-- the iteration is at the end of the span, past the last pattern number. The fourth number is the number of patterns
abbrev pub HasEnded : PreparedOverlappingMatchesValue → Type 0
HasEnded m = (m.end ≡ m.span.end) × (m.pattern ≡ slice_index m.numbers 3)

-- an end and a pattern number do not come before others: the end is greater, or the same and the pattern number no
-- smaller
abbrev pub IsNotBefore : ℕ → ℕ → ℕ → ℕ → Type 0
IsNotBefore end pattern other_end other_pattern = (other_end < end) ⊎ ((other_end ≡ end) × (other_pattern ≤ pattern))
