-- The parts of an array with a search.
use Rattle.std.proofs.Common.{◌≡◌, ℕ, ◌-◌, ◌≤◌, List, length, arith}
use Rattle.std.proofs.lemmas.Grind.{common_steps}
use Rattle.std.proofs.lemmas.List.{length-drop, length-take, take-take}
use Rattle.std.specs.List.{slice_range}
use Rattle.literal_rows.specs.Inside.Rows.{rows_of}
use Rattle.literal_rows.specs.Inside.Arrays.{IsSplit}
use Rattle.literal_rows.specs.Arrays.{rows_in}
use Rattle.std.proofs.Common.{◌≡◌, ℕ, ◌+◌, ◌-◌, ◌≤◌, List, length, get_or}
use Rattle.std.proofs.Common.{arith}
use Rattle.literal_rows.specs.Inside.Arrays.{IsHeader}
use Rattle.literal_rows.specs.Arrays.{classes_end}
use Rattle.literal_rows.specs.declared.array.Header.{Header}
pub use Rattle.literal_fingerprints.proofs.lemmas.Skipped.{part_behind}

-- the length of a part of a list
pub length_part : (numbers : List ℕ) (from to : ℕ) → from ≤ to → to ≤ length numbers
    → length (slice_range numbers from to) ≡ to - from
length_part numbers from to ordered inside = grind (arith, length-drop, length-take)

-- the rows without the classes behind them
pub rows_are : {version : ℕ} {numbers classes : List ℕ} {width : ℕ} {lengths rows : List ℕ} {longest : ℕ}
    → IsSplit version numbers classes width lengths rows longest → rows_of rows ≡ rows_in numbers
rows_are {version} {numbers} split = grind (arith, length_part, take-take)

-- there are numbers for the class of each byte
pub classes_long : {version : ℕ} {numbers classes : List ℕ} {width : ℕ} {lengths rows : List ℕ} {longest : ℕ}
    → IsSplit version numbers classes width lengths rows longest → length classes ≡ 64
classes_long {version} {numbers} split = grind (arith, length_part)

-- where the classes end, and how many lengths there are, by the parts of an array
pub parts_end : {version : ℕ} (f : Header) (numbers : List ℕ) → f.numbers.now ≡ numbers → IsHeader version f
    → (7 + length f.lengths.now + length f.rows.now ≡ classes_end numbers)
    × (length f.lengths.now ≡ get_or numbers 3 0)
parts_end {version} f numbers same header = grind (arith, common_steps, length_part)
