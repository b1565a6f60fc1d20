-- A search for leftmost matches as the numbers of a lent array.
use Rattle.std.specs.Prelude.{◌≡◌, ◌+◌, ◌<◌, ◌≤◌, ℕ, IfOk, IfSome, List, MatchResult, None, Option, Result, length}
use Rattle.std.specs.Prelude.{map, slice_index, slice_range}
use Rattle.std.specs.Result.{IsOkAnd}
use Rattle.literal_base.specs.MatchValue.{MatchValue}
use Rattle.literal_base.specs.Occurs.{between}
use Rattle.literal_base.specs.declared.search.Span.{Span}
use Rattle.literal_base.specs.declared.packed.MatchKind.TheVariants.{LeftmostLongest}
use Rattle.literal_rows.specs.Links.{AreLinks}
use Rattle.literal_leftmost.specs.SearchValue.{CanBeKept, HoldsInClasses, longest_of, SearchValue}
use Rattle.literal_leftmost.specs.SearchValue.{reversed, unshadowed}
use Rattle.literal_rows.specs.Inside.Classes.{AreClasses, LeavesLast, Tells, symbols_in}
use Rattle.literal_rows.specs.States.{IsRowsLength}
use Rattle.literal_rows.specs.Table.{Recognises}
use Rattle.literal_rows.specs.declared.classes.TheConstants.{CLASSES_LEN}
use Rattle.literal_rows.specs.declared.array.ArrayTooShort.{ArrayTooShort}
use Rattle.literal_rows.specs.declared.array.TheConstants.{LENGTHS_AT, PREPARED_VERSION}
use Rattle.literal_rows.specs.declared.array.TheConstants.{SCAN_LEN}
use Rattle.literal_rows.specs.declared.damaged.Damaged.{Damaged}
use Rattle.literal_leftmost.specs.LookUps.{LookUps, no_look_ups}
use Rattle.literal_leftmost.specs.MatchesValue.{GivesMatch, MatchesValue, offset_at_end}
pub use Rattle.literal_rows.specs.Arrays.{ArePrints, AreShort, Checks, HasParts, WritesNumbers}
unfoldable pub use Rattle.literal_rows.specs.Arrays.{check_of}
pub use Rattle.literal_rows.specs.Arrays.{check_of_four, check_with, checks_with, classes_end, classes_in}
pub use Rattle.literal_rows.specs.Arrays.{joined_with, kind_in, lengths_in, longest_in, pair_of, past_skipped}
pub use Rattle.literal_rows.specs.Arrays.{rows_at, rows_end, rows_in, short_of, stirred, width_in}
unfoldable pub use Rattle.literal_rows.specs.Arrays.{scan_by}

-- the match lies in the span, and is not empty
pub record LiesIn (span : Span) (found : MatchValue) : Type 0 where
  pub start : span.start ≤ found.start
  pub some : found.start < found.end
  pub end : found.end ≤ span.end

-- the tables of a backward walk: byte classes, rows, and the length of the longest pattern
pub record BackTables : Type 0 where
  pub search : SearchValue
  pub classes : List ℕ
  pub width : ℕ
  pub rows : List ℕ
  pub longest : ℕ

-- the patterns as texts of classes
abbrev pub texts_of : BackTables → List (List ℕ)
texts_of t = map (symbols_in t.classes) t.search.query.patterns

-- the texts by which a search walks, each reversed
abbrev pub texts_back : BackTables → List (List ℕ)
texts_back t = reversed (unshadowed t.search.query.kind (texts_of t))

-- each byte has a class, which distinguishes the bytes of the patterns. No pattern has a byte of the last class, unless
-- there are 256 classes. The rows are those of the reversed texts, and no pattern is empty
pub record AreBackTables (t : BackTables) : Type 0 where
  pub classes : AreClasses t.classes t.width
  pub tells : Tells t.search.ignore_case t.classes t.search.query.patterns
  pub last : LeavesLast t.classes t.width t.search.query.patterns
  pub recognises : Recognises (texts_back t) t.width t.rows
  pub longest : t.longest ≡ longest_of t.search.query.patterns
  pub kept : CanBeKept t.search.query.patterns

-- the index at which the links end, one for each pattern. They come after the classes
abbrev pub links_end : List ℕ → ℕ
links_end numbers = classes_end numbers + slice_index numbers 3

-- the links of the patterns
abbrev pub links_in : List ℕ → List ℕ
links_in numbers = slice_range numbers (classes_end numbers) (links_end numbers)

-- the number of entries of the search. The scan for candidates comes last, after the links
abbrev pub prepared_len : List ℕ → ℕ
prepared_len numbers = links_end numbers + SCAN_LEN

-- the numbers of its scan for candidates
abbrev pub prints_in : List ℕ → List ℕ
prints_in numbers = slice_range numbers (links_end numbers) (prepared_len numbers)

-- the array has the parts of a search for leftmost matches, is at least as long as they are, and has a row
pub record HasAllParts (numbers : List ℕ) : Type 0 where
  pub parts : HasParts PREPARED_VERSION numbers
  pub fits : prepared_len numbers ≤ length numbers
  pub row : 0 < slice_index numbers 4

-- the array has the parts of `HasAllParts`, and the second number is the checksum of the search's numbers after it
pub record IsWhole (numbers : List ℕ) : Type 0 where
  pub parts : HasAllParts numbers
  pub check : slice_index numbers 1 ≡ check_of (slice_range numbers 2 (prepared_len numbers))

-- the tables in an array
abbrev pub back_tables_in : SearchValue → List ℕ → BackTables
back_tables_in search numbers = record {
  search = search;
  classes = classes_in numbers;
  width = width_in numbers;
  rows = rows_in numbers;
  longest = longest_in numbers;
}

-- the array begins with a whole search for leftmost matches: with its match kind, its tables, the length of each
-- pattern, its link if the longest match is preferred, and a scan that stops at each pattern, if there is one
pub record IsPrepared (search : SearchValue) (numbers : List ℕ) : Type 0 where
  pub whole : IsWhole numbers
  pub kind : kind_in numbers ≡ search.query.kind
  pub tables : AreBackTables (back_tables_in search numbers)
  pub lengths : lengths_in numbers ≡ map (λ bytes. length bytes) search.query.patterns
  pub links : search.query.kind ≡ LeftmostLongest
      → AreLinks (texts_back (back_tables_in search numbers)) (links_in numbers) (length search.query.patterns)
  pub prints : ArePrints search.query.patterns search.ignore_case (prints_in numbers)

-- a property holds of every search for leftmost matches for which the array is prepared
abbrev pub ForPrepared : List ℕ → (SearchValue → Type 0) → Type 0
ForPrepared numbers P = (search : SearchValue) → IsPrepared search numbers → P search

-- the number of entries that a search takes: the header, two for each pattern, the rows of all states, the classes, and
-- the scan for candidates
unfoldable pub TakesPlaces : SearchValue → ℕ → Type 0
TakesPlaces search needed =
    HoldsInClasses (λ texts width. (rows : ℕ)
    × IsRowsLength (reversed (unshadowed search.query.kind texts)) width rows
    × (needed ≡ LENGTHS_AT + length search.query.patterns + rows + CLASSES_LEN + length search.query.patterns
    + SCAN_LEN))
    search.ignore_case search.query.patterns

-- the search is written into the first entries of an array
abbrev pub WritesPrepared : SearchValue → List ℕ → List ℕ → ℕ → Type 0
WritesPrepared search = WritesNumbers (IsPrepared search) (TakesPlaces search)

-- why an array is refused: it has fewer entries than the search takes. An array with just these entries would be long
-- enough
abbrev pub RefusesToPrepare : SearchValue → List ℕ → ArrayTooShort → Type 0
RefusesToPrepare search array error =
    (length array < error.needed) × TakesPlaces search error.needed
    × ((numbers : List ℕ) × IsPrepared search numbers × (length numbers ≡ error.needed))

-- a `PreparedMatches` as contracts see it: the array, the haystack, the span, the offset from which it continues, and
-- bounds on the bytes that it has looked up so far
pub record PreparedMatchesValue : Type 0 where
  pub numbers : List ℕ
  pub haystack : List ℕ
  pub span : Span
  pub at : ℕ
  pub look_ups : LookUps

-- the same iteration by a search for which the array is prepared
abbrev pub matches_for : SearchValue → PreparedMatchesValue → MatchesValue
matches_for search m =
    record { search = search; haystack = m.haystack; span = m.span; at = m.at; look_ups = m.look_ups }

-- an iteration over the matches in a span, which has not begun
abbrev pub lent_matches_in : List ℕ → List ℕ → Span → PreparedMatchesValue
lent_matches_in numbers haystack span =
    record { numbers = numbers; haystack = haystack; span = span; at = span.start; look_ups = no_look_ups }

-- the answer of `next_match`: by a prepared array that of `GivesMatch`. By another a match still lies in the rest of
-- the span, and names one of the patterns. After `None` or `Damaged` it has ended
pub record GivesLentMatch (old : PreparedMatchesValue) (answer : Result (Option MatchValue) Damaged)
    (new : PreparedMatchesValue) : Type 0 where
  pub prepared : ForPrepared old.numbers (λ search. IsOkAnd answer (λ found.
      GivesMatch (matches_for search old) found (matches_for search new)))
  pub inside : IfOk answer (λ found. IfSome found (LiesIn (between old.at old.span.end)))
  pub pattern : IfOk answer (λ found. IfSome found (λ m. m.pattern < slice_index old.numbers 3))
  pub goes_on : MatchResult answer (λ found. new.at ≡ offset_at_end old.span found) (λ _. new.at ≡ old.span.end)
  pub ended : old.at ≡ old.span.end → IsOkAnd answer (λ found. found ≡ None)
  pub same : new ≡ record old { at = new.at; look_ups = new.look_ups }
