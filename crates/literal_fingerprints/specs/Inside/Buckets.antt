-- Patterns that are assigned to buckets.
use Rattle.std.specs.Prelude.{◌≡◌, ◌⊎◌, ℕ, ◌+◌, ◌-◌, ◌*◌, ◌/◌, ◌%◌, ◌<◌, Bool, true, List, [], bit_and, count_ones}
use Rattle.std.specs.Prelude.{length, min, slice_index, slice_index_or, sum_by}
use Rattle.std.specs.Int.{bit_at}
use Rattle.literal_base.specs.Occurs.{same_byte}
use Rattle.literal_fingerprints.specs.declared.buckets.Bucket.{Bucket}
use Rattle.literal_fingerprints.specs.declared.buckets.Buckets.{Buckets}
use Rattle.literal_fingerprints.specs.declared.buckets.Halves.{Halves}

-- both nibbles of a byte are in the sets
pub record HasByte (h : Halves) (byte : ℕ) : Type 0 where
  pub low : bit_at h.low (byte % 16) ≡ 1
  pub high : bit_at h.high (byte / 16) ≡ 1

-- the nibbles at a position of a bucket
abbrev pub halves_at : List Halves → ℕ → Halves
halves_at places k = slice_index_or places k (record { low = 0; high = 0 })

-- at each of its four positions a bucket has each byte that equals the pattern's
abbrev pub Holds : Bucket → Bool → List ℕ → Type 0
Holds bucket ignore_case pattern = (k byte : ℕ) → k < 4 → k < length pattern
    → same_byte ignore_case byte (slice_index pattern k) ≡ true → HasByte (halves_at bucket.places k) byte

-- one of the eight buckets holds the pattern
abbrev pub IsHeld : List Bucket → Bool → List ℕ → Type 0
IsHeld buckets ignore_case pattern =
    (b : ℕ) × (b < 8) × Holds (slice_index_or buckets b (record { places = [] })) ignore_case pattern

-- the number of bytes that have both nibbles in the sets, where the byte 0 counts like 64 bytes
abbrev pub bytes_of : Halves → ℕ
bytes_of h = count_ones h.low * count_ones h.high + bit_and (bit_and h.low h.high) 1 * 63

-- the number of texts of four bytes that pass a bucket, if bytes have `kinds` values
abbrev pub texts_of : ℕ → Bucket → ℕ
texts_of kinds bucket =
    let bytes = λ (k : ℕ). min (bytes_of (halves_at bucket.places k)) kinds in
    (bytes 0 * bytes 1) * (bytes 2 * bytes 3)

-- of all texts of four bytes, more than one of eight passes, or more than one of 256 is a false positive
abbrev pub AreTooFull : Buckets → Type 0
AreTooFull b =
    let all = (b.kinds * b.kinds) * (b.kinds * b.kinds) in
    let passing = sum_by (texts_of b.kinds) b.buckets in
    (all < 8 * passing) ⊎ (all < 256 * (passing - b.wanted))
