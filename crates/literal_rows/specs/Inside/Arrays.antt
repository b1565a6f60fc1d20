-- The parts of an array with a search, and how they are written.
use Rattle.std.specs.Prelude.{◌≡◌, ◌+◌, ◌<◌, ◌^◌, ℕ, List, ◌∷◌, ◌++◌, length, map, slice_index}
use Rattle.std.specs.Prelude.{slice_range, ◌≤◌, MatchResult, None, Option, Result, Some}
use Rattle.literal_base.specs.declared.packed.MatchKind.{MatchKind}
use Rattle.literal_base.specs.declared.packed.MatchKind.TheVariants.{LeftmostFirst, LeftmostLongest}
use Rattle.literal_rows.specs.Patterns.{longest_of}
use Rattle.literal_rows.specs.Inside.Rows.{packed_classes}
use Rattle.literal_rows.specs.Inside.Packed.{Puts}
use Rattle.literal_rows.specs.Arrays.{HasParts, check_of, classes_end}
use Rattle.literal_rows.specs.Arrays.{lengths_in, rows_at, rows_end, width_in}
use Rattle.literal_rows.specs.declared.classes.TheConstants.{PACKED_LEN}
use Rattle.literal_rows.specs.declared.array.ArrayTooShort.{ArrayTooShort}
use Rattle.literal_rows.specs.declared.array.Header.{Header}
use Rattle.literal_rows.specs.declared.array.TheConstants.{OVERLAPPING_VERSION, PREPARED_VERSION}
use Rattle.literal_rows.specs.declared.walk.Table.{Table}

-- the parts of an array that begins with a prepared search of a version; the rows include the classes after them
pub record IsSplit (version : ℕ) (numbers classes : List ℕ) (width : ℕ) (lengths rows : List ℕ)
    (longest : ℕ) : Type 0 where
  pub parts : HasParts version numbers
  pub classes_are : classes ≡ slice_range numbers (rows_end numbers) (rows_end numbers + PACKED_LEN)
  pub width_is : width ≡ width_in numbers
  pub small : width < 2 ^ 32
  pub lengths_are : lengths ≡ lengths_in numbers
  pub rows_are : rows ≡ slice_range numbers (rows_at numbers) (classes_end numbers)
  pub longest_is : longest ≡ slice_index numbers 5

-- the fields of a `Header` are these parts
abbrev pub IsHeader : ℕ → Header → Type 0
IsHeader version f = IsSplit version f.numbers.now f.classes.now f.width f.lengths.now f.rows.now f.longest

-- the table that a walk reads
abbrev pub header_table : Header → Table
header_table f =
    record {
      classes = f.classes;
      width = f.width;
      rows = f.rows;
      longest = f.longest;
    }

-- numbers are written into the first entries of an array, unless it is too short
abbrev pub IsPut : List ℕ → List ℕ → List ℕ → Result ℕ ArrayTooShort → Type 0
IsPut numbers old new result = MatchResult result
    (λ needed. (needed ≡ length numbers) × (needed ≤ length old) × Puts 0 numbers old new)
    (λ error. (error.needed ≡ length numbers) × (length old < error.needed) × (new ≡ old))

-- numbers after a version and their checksum
abbrev pub checked : ℕ → List ℕ → List ℕ
checked version numbers = version ∷ check_of numbers ∷ numbers

-- the first number of a search by a match kind, or of one for every occurrence, which has none
abbrev pub version_for : Option MatchKind → ℕ
version_for None = OVERLAPPING_VERSION
version_for (Some kind) = PREPARED_VERSION

-- the number for the match kind
abbrev pub kind_number : Option MatchKind → ℕ
kind_number (Some LeftmostLongest) = 1
kind_number (Some LeftmostFirst) = 0
kind_number None = 0

-- the numbers of a prepared search, with lists after its rows and classes, if any
abbrev pub numbers_for : ℕ → ℕ → List ℕ → ℕ → List (List ℕ) → List ℕ → List ℕ → List ℕ → List ℕ
numbers_for version kind classes width patterns rows starts ends =
    checked version (width ∷ length patterns ∷ length rows ∷ longest_of patterns ∷ kind
    ∷ map (λ bytes. length bytes) patterns ++ (rows ++ packed_classes classes) ++ starts ++ ends)
