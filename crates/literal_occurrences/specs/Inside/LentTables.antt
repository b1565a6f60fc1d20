-- The fields of `LentTables`, and the answers of its private functions.
use Rattle.std.specs.Prelude.{◌≡◌, ◌<◌, ◌≤◌, ◌^◌, ℕ, Bool, List, IfSome, MatchOption, Option, Some, length, map}
use Rattle.literal_base.specs.MatchValue.{MatchValue}
use Rattle.literal_base.specs.declared.search.Span.{Span}
use Rattle.literal_rows.specs.Inside.Packed.{unpacked}
use Rattle.literal_rows.specs.Inside.Arrays.{IsHeader}
use Rattle.literal_rows.specs.Inside.Rows.{rows_of}
use Rattle.literal_occurrences.specs.Inside.Position.{HaveSameToCome, IsPosition, position_value}
use Rattle.literal_occurrences.specs.Overlapping.{OverlappingValue}
use Rattle.literal_occurrences.specs.OverlappingMatchesValue.{IsNextToCome, IsToCome, gone_on}
use Rattle.literal_leftmost.specs.Prepared.{ArePrints, LiesIn}
use Rattle.literal_leftmost.specs.SearchValue.{longest_of}
use Rattle.literal_occurrences.specs.PreparedOverlapping.{AreTables, HasLists, Tables, ends_in, prints_after}
use Rattle.literal_occurrences.specs.PreparedOverlapping.{starts_in}
use Rattle.literal_occurrences.specs.PreparedOverlapping.{AreSized, IsPreparedOverlapping, overlapping_len, tables_in}
use Rattle.literal_rows.specs.declared.array.TheConstants.{SCAN_LEN, OVERLAPPING_VERSION}
use Rattle.literal_occurrences.specs.declared.prepared_overlapping.LentTables.{LentTables}
use Rattle.literal_occurrences.specs.declared.position.Position.{Position}

-- the parts of an array that begins with a prepared search for every occurrence
pub record AreLent (p : LentTables) : Type 0 where
  pub header : IsHeader OVERLAPPING_VERSION p.header
  pub listed : HasLists p.header.numbers.now
  pub starts_are : p.starts.now ≡ starts_in p.header.numbers.now
  pub ends_are : p.ends.now ≡ ends_in p.header.numbers.now
  pub prints_are : p.prints.now ≡ prints_after p.header.numbers.now
  pub prints_long : length p.prints.now ≡ SCAN_LEN

-- the search for these patterns
abbrev pub overlapping_for : Bool → List (List ℕ) → OverlappingValue
overlapping_for ignore_case patterns = record { patterns = patterns; ignore_case = ignore_case }

-- the tables as those of a search
abbrev pub tables_by : OverlappingValue → LentTables → Tables
tables_by search p = record {
  patterns = search.patterns;
  ignore_case = search.ignore_case;
  classes = unpacked p.header.classes.now;
  width = p.header.width;
  rows = rows_of p.header.rows.now;
  ends = p.ends.now;
  starts = p.starts.now;
}

-- the tables are those of a search, with a scan that stops at each pattern, if there is one
pub record AreFor (search : OverlappingValue) (p : LentTables) : Type 0 where
  pub tables : AreTables (tables_by search p)
  pub lengths : p.header.lengths.now ≡ map (λ bytes. length bytes) search.patterns
  pub longest : p.header.longest ≡ longest_of search.patterns
  pub prints : ArePrints search.patterns search.ignore_case p.prints.now

-- a position in the span, with the index of a row or another number
pub record LiesAt (span : Span) (s : Position) : Type 0 where
  pub after : span.start ≤ s.at
  pub inside : s.at ≤ span.end
  pub small : s.row < 2 ^ 32

-- the position of a search by the tables
abbrev pub IsPositionBy : LentTables → List ℕ → Span → Position → Type 0
IsPositionBy p haystack span s =
    (search : OverlappingValue) → AreFor search p → IsPosition (tables_by search p) haystack span s

-- the position at which the next occurrence that is to come ends
pub record IsNextEnd (t : Tables) (haystack : List ℕ) (span : Span) (s : Position) (answer : Option Position)
    : Type 0 where
  pub stands : IfSome answer (IsPosition t haystack span)
  pub more : IfSome answer (λ here. here.next < here.end)
  pub to_come : MatchOption answer ((found : MatchValue) → ¬ IsToCome (position_value t haystack span s) found)
      (λ here. HaveSameToCome (position_value t haystack span s) (position_value t haystack span here))

-- the next occurrence that is to come, and the position after it
pub record IsNextBy (t : Tables) (haystack : List ℕ) (span : Span) (s : Position) (found : MatchValue)
    (behind : Position) : Type 0 where
  pub stands : IsPosition t haystack span behind
  pub next : IsNextToCome (position_value t haystack span s) found
  pub goes_on : position_value t haystack span behind ≡ gone_on (position_value t haystack span s) (Some found)

-- the match lies in the span, and the position after it is at its end
pub record EndsAt (span : Span) (found : MatchValue) (behind : Position) : Type 0 where
  pub lies : LiesIn span found
  pub at : behind.at ≡ found.end
  pub small : behind.row < 2 ^ 32

-- the numbers are just those prepared for a search, with as many classes and rows as the patterns need
pub record AreListed (search : OverlappingValue) (numbers : List ℕ) : Type 0 where
  pub prepared : IsPreparedOverlapping search numbers
  pub long : length numbers ≡ overlapping_len numbers
  pub sized : AreSized (tables_in search numbers)
