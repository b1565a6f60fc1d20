-- Byte classes: a list with a number for each of the 256 bytes, its class.
use Rattle.std.specs.Prelude.{◌≡◌, ℕ, ◌+◌, ◌-◌, ◌^◌, ◌<◌, ◌≤◌, ◌==◌, ◌&&◌, ◌||◌, Bool, List, filter, take, count_by}
use Rattle.std.specs.Prelude.{nat_le, slice_index}
use Rattle.std.specs.List.{All, AllPairs, flat_map, list_any, range_with_len}
use Rattle.literal_base.specs.Bytes.{all_bytes, by_byte, contains}

-- whether a range contains a byte. A range is given by its first and its last byte
abbrev pub holds : ℕ × ℕ → ℕ → Bool
holds range b = nat_le range.0 b && nat_le b range.1

-- each range contains both of the bytes b and b + 1, or neither
abbrev pub NonePart : List (ℕ × ℕ) → ℕ → Type 0
NonePart ranges b = All (λ range. holds range b ≡ holds range (b + 1)) ranges

-- whether a range marks a byte: it marks its last byte, and the byte before its first
abbrev pub is_marked_by : ℕ × ℕ → ℕ → Bool
is_marked_by range b = b == range.1 || b + 1 == range.0

-- a set with the bytes added that a range marks
abbrev pub with_range_marked : List Bool → ℕ → ℕ → List Bool
with_range_marked marked start end = by_byte (λ b. contains marked b || is_marked_by (start, end) b)

-- the bytes that one of the ranges marks
abbrev pub marks_of : List (ℕ × ℕ) → List Bool
marks_of ranges = by_byte (λ b. list_any (λ range. is_marked_by range b) ranges)

-- the class of a byte: the number of marked bytes below it
abbrev pub class_of : List Bool → ℕ → ℕ
class_of marked b = count_by (λ m. m) (take b marked)

-- the class of the last byte, plus 1
abbrev pub alphabet_len_of : List ℕ → ℕ
alphabet_len_of classes = slice_index classes 255 + 1

-- k is the least number whose power of two is at least the length of the alphabet
pub record IsStride2 (classes : List ℕ) (k : ℕ) : Type 0 where
  pub enough : alphabet_len_of classes ≤ 2 ^ k
  pub least : (j : ℕ) → alphabet_len_of classes ≤ 2 ^ j → k ≤ j

-- the bytes of a class, in ascending order
abbrev pub elements_of : List ℕ → ℕ → List ℕ
elements_of classes class = filter (λ b. slice_index classes b == class) all_bytes

-- the bytes of a range
abbrev pub bytes_in : ℕ × ℕ → List ℕ
bytes_in range = range_with_len range.0 (range.1 + 1 - range.0)

-- the runs are maximal ranges of the bytes in a list: none is empty, some byte is between each run and every later one,
-- and concatenated they are the list
pub record AreRuns (bytes : List ℕ) (runs : List (ℕ × ℕ)) : Type 0 where
  pub none_empty : All (λ run. run.0 ≤ run.1) runs
  pub apart : AllPairs (λ run later. run.1 + 1 < later.0) runs
  pub whole : flat_map bytes_in runs ≡ bytes
