-- Fingerprints of patterns, and the scan by them.
use Rattle.std.specs.Prelude.{◌≡◌, ◌≢◌, ◌⊎◌, ℕ, ◌+◌, ◌/◌, ◌%◌, ◌<◌, Bool, true, List, length, slice_index, bit_and}
use Rattle.std.specs.Prelude.{slice_range, take}
use Rattle.std.specs.List.{All}
use Rattle.literal_base.specs.declared.search.Span.{Span}
use Rattle.literal_base.specs.Occurs.{Occurs, same_byte}

-- a table of buckets for the bytes at one position: for each low and each high nibble of a byte, a bitmask of eight
-- buckets
pub record HalfTable : Type 0 where
  pub low : List ℕ
  pub high : List ℕ

-- `Fingerprints` as contracts see them: the tables for the first byte of a pattern and the three after it
pub record FingerprintsValue : Type 0 where
  pub first : HalfTable
  pub second : HalfTable
  pub third : HalfTable
  pub fourth : HalfTable

-- the table in 32 bytes from an index on, low nibbles first
abbrev pub table_in : List ℕ → ℕ → HalfTable
table_in bytes at = record { low = slice_range bytes at (at + 16); high = slice_range bytes (at + 16) (at + 32) }

-- the fingerprints in 128 bytes: the four tables in order
abbrev pub fingerprints_in : List ℕ → FingerprintsValue
fingerprints_in bytes = record {
  first = table_in bytes 0;
  second = table_in bytes 32;
  third = table_in bytes 64;
  fourth = table_in bytes 96;
}

-- the buckets of a byte by a table, as a bitmask: those that its low nibble and its high nibble both have
abbrev pub buckets_of : HalfTable → ℕ → ℕ
buckets_of table byte = bit_and (slice_index table.low (byte % 16)) (slice_index table.high (byte / 16 % 16))

-- the buckets that the first four bytes of a text share, by the table for each position
abbrev pub shared_buckets : FingerprintsValue → (ℕ → ℕ) → ℕ
shared_buckets f text =
    bit_and (bit_and (buckets_of f.first (text 0)) (buckets_of f.second (text 1)))
    (bit_and (buckets_of f.third (text 2)) (buckets_of f.fourth (text 3)))

-- the four bytes from an offset of the haystack on share a bucket
abbrev pub PassesAt : FingerprintsValue → List ℕ → ℕ → Type 0
PassesAt f haystack at = shared_buckets f (λ k. slice_index haystack (at + k)) ≢ 0

-- an offset at which a scan of a span may stop: the four bytes from there on share a bucket, with zeros after the
-- span's end; or fewer than three bytes of the span are left
abbrev pub FingerprintsMayStop : FingerprintsValue → List ℕ → Span → ℕ → Type 0
FingerprintsMayStop f haystack span place =
    PassesAt f (take span.end haystack) place ⊎ (span.end < place + 3)

-- the pattern is not empty, and the first four bytes of each text that begins with it share a bucket
pub record LetsPass (f : FingerprintsValue) (ignore_case : Bool) (pattern : List ℕ) : Type 0 where
  pub some : 0 < length pattern
  pub each : (text : ℕ → ℕ)
      → ((k : ℕ) → k < length pattern → same_byte ignore_case (text k) (slice_index pattern k) ≡ true)
      → shared_buckets f text ≢ 0

-- `LetsPass` holds for each pattern
abbrev pub AllPass : FingerprintsValue → Bool → List (List ℕ) → Type 0
AllPass f ignore_case patterns = All (λ (pattern : List ℕ). LetsPass f ignore_case pattern) patterns

-- no pattern that passes begins before the offset and lies whole in the span
abbrev pub NoneBegins : FingerprintsValue → List ℕ → Span → ℕ → Type 0
NoneBegins f haystack span place =
    (patterns : List (List ℕ)) (ignore_case : Bool) → AllPass f ignore_case patterns → (i at : ℕ) → at < place
    → ¬ Occurs patterns ignore_case haystack span i at
