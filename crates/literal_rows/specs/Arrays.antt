-- Searches as numbers in an array: the header, the rows and classes, and the scan for candidates.
use Rattle.std.specs.Prelude.{◌≡◌, ◌+◌, ◌-◌, ◌*◌, ◌/◌, ◌%◌, ◌^◌, ◌<◌, ◌≤◌, ℕ, Bool, List, length, take, drop, fold}
use Rattle.std.specs.Prelude.{◌==◌, IsSome, None, Option, Some, if◌then◌else◌, slice_index, slice_range}
use Rattle.std.specs.Int.Bits.{bit_xor}
use Rattle.std.specs.List.{All}
use Rattle.literal_fingerprints.specs.CandidateScans.{IsScanFor}
use Rattle.literal_fingerprints.specs.RarePairs.{pair_in}
use Rattle.literal_fingerprints.specs.ShortPatterns.{short_in}
use Rattle.literal_fingerprints.specs.declared.candidates.CandidateScan.{CandidateScan}
use Rattle.literal_fingerprints.specs.declared.pair.RarePair.{RarePair}
use Rattle.literal_fingerprints.specs.declared.short.ShortPattern.{ShortPattern}
use Rattle.literal_fingerprints.specs.FingerprintsValue.{fingerprints_in}
use Rattle.literal_base.specs.declared.packed.MatchKind.{MatchKind}
use Rattle.literal_base.specs.declared.packed.MatchKind.TheVariants.{LeftmostFirst, LeftmostLongest}
use Rattle.literal_rows.specs.Inside.Packed.{unpacked}
use Rattle.literal_rows.specs.declared.classes.TheConstants.{CLASSES_LEN, PACKED_LEN}
use Rattle.literal_rows.specs.declared.array.TheConstants.{KIND_AT, LENGTHS_AT, PAIR_AT}
use Rattle.literal_rows.specs.declared.array.TheConstants.{SHORT_AT}
use Rattle.literal_ids.specs.declared.primitives.pattern_id.TheConstants.PatternID

-- the match kind of a search for leftmost matches, from the seventh number
abbrev pub kind_in : List ℕ → MatchKind
kind_in numbers = if slice_index numbers KIND_AT == 0 then LeftmostFirst else LeftmostLongest

-- the number of byte classes, from the third number
abbrev pub width_in : List ℕ → ℕ
width_in numbers = slice_index numbers 2

-- the index at which the rows begin, after a length for each pattern. The fourth number is the number of patterns
abbrev pub rows_at : List ℕ → ℕ
rows_at numbers = LENGTHS_AT + slice_index numbers 3

-- the index at which the rows end. The fifth number is their length
abbrev pub rows_end : List ℕ → ℕ
rows_end numbers = rows_at numbers + slice_index numbers 4

-- the length of the longest pattern, from the sixth number
abbrev pub longest_in : List ℕ → ℕ
longest_in numbers = slice_index numbers 5

-- the lengths of the patterns
abbrev pub lengths_in : List ℕ → List ℕ
lengths_in numbers = slice_range numbers LENGTHS_AT (rows_at numbers)

-- the rows
abbrev pub rows_in : List ℕ → List ℕ
rows_in numbers = slice_range numbers (rows_at numbers) (rows_end numbers)

-- the index at which the 256 numbers after the rows end
abbrev pub classes_end : List ℕ → ℕ
classes_end numbers = rows_end numbers + CLASSES_LEN

-- the class of each byte: the first 64 of these numbers hold four each, the first in the lowest eight bits
abbrev pub classes_in : List ℕ → List ℕ
classes_in numbers = unpacked (slice_range numbers (rows_end numbers) (rows_end numbers + PACKED_LEN))

-- the first number of a scan for candidates: one more than the number of bytes that it skips, or 0 if there is no scan
abbrev pub past_skipped : List ℕ → ℕ
past_skipped prints = slice_index prints 0

-- the rare pair in eight bytes, if the first of them is not 0
abbrev pub pair_of : List ℕ → Option RarePair
pair_of bytes = if slice_index bytes 0 == 0 then None else Some (pair_in bytes)

-- the short pattern in twenty bytes, if the first of them is not 0
abbrev pub short_of : List ℕ → Option ShortPattern
short_of bytes = if slice_index bytes 0 == 0 then None else Some (short_in bytes)

-- the scan for candidates in such numbers. They hold the bytes of the fingerprints, of the rare pair and of the short
-- pattern, four each, the first in the lowest eight bits
unfoldable pub scan_by : List ℕ → CandidateScan
scan_by prints = record {
  fingerprints = fingerprints_in (unpacked (slice_range prints 1 PAIR_AT));
  pair = pair_of (unpacked (slice_range prints PAIR_AT SHORT_AT));
  skipped = (past_skipped prints - 1) % 256;
  short = short_of (unpacked (drop SHORT_AT prints));
}

-- the scan in such numbers, which goes by a rare pair. It uses no fingerprints, so these may differ, and holds no short
-- pattern
pub record IsPairScan (prints : List ℕ) (scan : CandidateScan) : Type 0 where
  pub some : 0 < past_skipped prints
  pub by_pair : IsSome scan.pair
  pub pair : scan.pair ≡ (scan_by prints).pair
  pub skipped : scan.skipped ≡ (scan_by prints).skipped
  pub short : scan.short ≡ None

-- a number of 32 bits, mixed so that different numbers stay different: its upper half is xored into the lower one, and
-- the result is multiplied by an odd factor, in 32 bits
abbrev pub stirred : ℕ → ℕ
stirred number = bit_xor number (number / 2 ^ 16) * 16777619 % 2 ^ 32

-- a checksum after one more number, which is added in 32 bits; the sum is mixed
abbrev pub check_with : ℕ → ℕ → ℕ
check_with check number = stirred ((check + number) % 2 ^ 32)

-- four checksums. The first takes the next number and then becomes the fourth, so each takes every fourth number
pub record Checks : Type 0 where
  pub first : ℕ
  pub second : ℕ
  pub third : ℕ
  pub fourth : ℕ

-- the four checksums after one more number
abbrev pub checks_with : Checks → ℕ → Checks
checks_with c number =
    record { first = c.second; second = c.third; third = c.fourth; fourth = check_with c.first number }

-- two checksums as one: the other one is added, and the sum is mixed twice
abbrev pub joined_with : ℕ → ℕ → ℕ
joined_with check other = check_with (check_with check other) 0

-- four checksums as one
abbrev pub check_of_four : Checks → ℕ
check_of_four c = joined_with (joined_with (joined_with (joined_with 0 c.first) c.second) c.third) c.fourth

-- the checksum of a list of numbers. At the start, one of the four checksums is not zero
unfoldable pub check_of : List ℕ → ℕ
check_of numbers =
    check_of_four (fold checks_with (record { first = 2166136261; second = 0; third = 0; fourth = 0 }) numbers)

-- the first number is a version, there are identifiers for the patterns, and the array is as long as its numbers say
pub record HasParts (version : ℕ) (numbers : List ℕ) : Type 0 where
  pub version_is : slice_index numbers 0 ≡ version
  pub few : slice_index numbers 3 ≤ PatternID.LIMIT
  pub fits : classes_end numbers ≤ length numbers

-- the numbers of a search are written into the first entries of an array, and the others are unchanged
pub record WritesNumbers (AreFor : List ℕ → Type 0) (Takes : ℕ → Type 0) (old new : List ℕ) (needed : ℕ) : Type 0 where
  pub len : length new ≡ length old
  pub fits : needed ≤ length new
  pub takes : Takes needed
  pub prepared : AreFor (take needed new)
  pub others : drop needed new ≡ drop needed old

-- the length of each pattern is below 2^32
abbrev pub AreShort : List (List ℕ) → Type 0
AreShort patterns = All (λ (bytes : List ℕ). length bytes < 2 ^ 32) patterns

-- if such numbers describe a scan for candidates, it stops at each of the patterns
abbrev pub ArePrints : List (List ℕ) → Bool → List ℕ → Type 0
ArePrints patterns ignore_case prints = 0 < past_skipped prints → IsScanFor (scan_by prints) ignore_case patterns
