-- Two or three rare bytes of a pattern, and the scan by them.
use Rattle.std.specs.Prelude.{◌≡◌, ◌⊎◌, ℕ, ◌+◌, ◌<◌, ◌==◌, ◌&&◌, Bool, true, not, List, length, min}
use Rattle.std.specs.Prelude.{nat_le, slice_index, bit_or}
use Rattle.std.specs.List.{All}
use Rattle.literal_base.specs.declared.search.Span.{Span}
use Rattle.literal_base.specs.Occurs.{Occurs, same_byte}
use Rattle.literal_fingerprints.specs.declared.pair.RareByte.{RareByte}
use Rattle.literal_fingerprints.specs.declared.pair.RarePair.{RarePair}

-- a byte is the rare one, once the bits of the mask are set
abbrev pub IsRare : RareByte → ℕ → Type 0
IsRare rare byte = bit_or byte rare.mask ≡ rare.byte

-- the pair in eight bytes. The first of them is not used
abbrev pub pair_in : List ℕ → RarePair
pair_in bytes = record {
  first = record { byte = slice_index bytes 1; mask = slice_index bytes 2 };
  second = record { byte = slice_index bytes 3; mask = slice_index bytes 4 };
  offset = slice_index bytes 5;
  apart = slice_index bytes 6;
  between = slice_index bytes 7;
}

-- the offset of the first byte in a pattern: at most two
abbrev pub first_offset : RarePair → ℕ
first_offset pair = min pair.offset 2

-- the offset of the second byte in a pattern: at most three bytes after the first
abbrev pub second_offset : RarePair → ℕ
second_offset pair = first_offset pair + min pair.apart 3

-- whether a byte between the two is known: it is right after the first
abbrev pub has_between : RarePair → Bool
has_between pair = not (pair.between == 0) && nat_le 2 pair.apart

-- a byte is the one between the two, if that is known
abbrev pub IsBetween : RarePair → ℕ → Type 0
IsBetween pair byte =
    has_between pair ≡ true → IsRare (record { byte = pair.between; mask = pair.first.mask }) byte

-- the haystack has the bytes of the pair, the first of them at this offset
abbrev pub HasBytes : RarePair → List ℕ → ℕ → Type 0
HasBytes pair haystack at =
    IsRare pair.first (slice_index haystack at) × IsBetween pair (slice_index haystack (at + 1))
    × IsRare pair.second (slice_index haystack (at + min pair.apart 3))

-- the haystack has the bytes of the pair where a pattern has them that begins at this offset
abbrev pub HasPair : RarePair → List ℕ → ℕ → Type 0
HasPair pair haystack at = HasBytes pair haystack (at + first_offset pair)

-- the haystack has the bytes of the pair after an offset, where a pattern has them that begins before it
abbrev pub HasPairOfEarlier : RarePair → List ℕ → ℕ → Type 0
HasPairOfEarlier pair haystack start = (k : ℕ) × (k < first_offset pair) × HasBytes pair haystack (start + k)

-- an offset at which a scan of the span may stop: at a pair, at the start of the span if there is a pair of a pattern
-- that begins earlier, and at the end of the span
abbrev pub PairMayStop : RarePair → List ℕ → Span → ℕ → Type 0
PairMayStop pair haystack span place =
    HasPair pair haystack place
    ⊎ (((place ≡ span.start) × HasPairOfEarlier pair haystack span.start) ⊎ (place ≡ span.end))

-- each text that begins with the pattern has the bytes of the pair
pub record IsPairOf (pair : RarePair) (ignore_case : Bool) (pattern : List ℕ) : Type 0 where
  pub inside : second_offset pair < length pattern
  pub first : (byte : ℕ) → same_byte ignore_case byte (slice_index pattern (first_offset pair)) ≡ true
      → IsRare pair.first byte
  pub between : (byte : ℕ) → same_byte ignore_case byte (slice_index pattern (first_offset pair + 1)) ≡ true
      → IsBetween pair byte
  pub second : (byte : ℕ) → same_byte ignore_case byte (slice_index pattern (second_offset pair)) ≡ true
      → IsRare pair.second byte

-- `IsPairOf` holds for each pattern
abbrev pub AreOf : RarePair → Bool → List (List ℕ) → Type 0
AreOf pair ignore_case patterns = All (λ (pattern : List ℕ). IsPairOf pair ignore_case pattern) patterns

-- no pattern with the pair begins before the offset and lies whole in the span
abbrev pub NoPairBegins : RarePair → List ℕ → Span → ℕ → Type 0
NoPairBegins pair haystack span place =
    (patterns : List (List ℕ)) (ignore_case : Bool) → AreOf pair ignore_case patterns → (i at : ℕ) → at < place
    → ¬ Occurs patterns ignore_case haystack span i at
