-- The bytes that a scan has looked up. Places are offsets plus 16, so that there are some before a span.
use Rattle.std.specs.Prelude.{◌≡◌, ℕ, ◌+◌, ◌-◌, ◌/◌, ◌%◌, ◌<◌, ◌≤◌, if◌then◌else◌, List, nat_lt, slice_index, bit_and}
use Rattle.literal_fingerprints.specs.FingerprintsValue.{FingerprintsValue, HalfTable, PassesAt}
use Rattle.literal_fingerprints.specs.FingerprintsValue.{shared_buckets}
use Rattle.literal_fingerprints.specs.Inside.Lanes.{HasHalves}
use Rattle.literal_fingerprints.specs.declared.fingerprints.Passed.{Passed}
use Rattle.literal_fingerprints.specs.declared.looked_up.LookedUp.{LookedUp}
use Rattle.literal_fingerprints.specs.declared.looked_up.Tables.{Tables}

-- the buckets of the low nibble of a byte by a table
abbrev pub low_of : HalfTable → ℕ → ℕ
low_of table byte = slice_index table.low (byte % 16)

-- the buckets of the high nibble of a byte by a table
abbrev pub high_of : HalfTable → ℕ → ℕ
high_of table byte = slice_index table.high (byte / 16 % 16)

-- the tables of fingerprints, each as one vector: the entries for low nibbles, and then those for high nibbles
pub record AreTables (tables : Tables) (f : FingerprintsValue) : Type 0 where
  pub first : HasHalves tables.first (λ k. slice_index f.first.low k) (λ k. slice_index f.first.high k)
  pub second : HasHalves tables.second (λ k. slice_index f.second.low k) (λ k. slice_index f.second.high k)
  pub third : HasHalves tables.third (λ k. slice_index f.third.low k) (λ k. slice_index f.third.high k)
  pub fourth : HasHalves tables.fourth (λ k. slice_index f.fourth.low k) (λ k. slice_index f.fourth.high k)

-- the buckets of the byte 16 before a place, and none before the start of the span
abbrev pub looked_up : (ℕ → ℕ) → List ℕ → ℕ → ℕ → ℕ
looked_up buckets haystack start place =
    if nat_lt place (start + 16) then 0 else buckets (slice_index haystack (place - 16))

-- what four bytes share, the first of them 16 before a place, by their buckets or by those of one nibble of each
abbrev pub shared_from : (HalfTable → ℕ → ℕ) → FingerprintsValue → List ℕ → ℕ → ℕ → ℕ
shared_from buckets f haystack start place =
    bit_and (bit_and (looked_up (buckets f.first) haystack start place)
    (looked_up (buckets f.second) haystack start (place + 1)))
    (bit_and (looked_up (buckets f.third) haystack start (place + 2))
    (looked_up (buckets f.fourth) haystack start (place + 3)))

-- the buckets of the nibbles of 16 bytes by a table, the first of these bytes 16 before a place
abbrev pub AreOfNibbles : List ℕ → HalfTable → List ℕ → ℕ → ℕ → Type 0
AreOfNibbles lanes table haystack start place = HasHalves lanes
    (λ k. looked_up (low_of table) haystack start (place + k))
    (λ k. looked_up (high_of table) haystack start (place + k))

-- the buckets of the 16 bytes before an offset, by each table
pub record IsLookedUp (looked : LookedUp) (f : FingerprintsValue) (haystack : List ℕ) (start at : ℕ) : Type 0 where
  pub first : AreOfNibbles looked.first f.first haystack start at
  pub second : AreOfNibbles looked.second f.second haystack start at
  pub third : AreOfNibbles looked.third f.third haystack start at
  pub fourth : AreOfNibbles looked.fourth f.fourth haystack start at

-- no four bytes from a start on, of which the last is before an offset, share a bucket
abbrev pub NoneShared : FingerprintsValue → List ℕ → ℕ → ℕ → Type 0
NoneShared f haystack start at =
    (k : ℕ) → start ≤ k → k + 3 < at → shared_buckets f (λ j. slice_index haystack (k + j)) ≡ 0

-- the progress of a scan that began at a start
pub record HasPassed (passed : Passed) (f : FingerprintsValue) (haystack : List ℕ) (start : ℕ) : Type 0 where
  pub within : passed.stop ≤ passed.at
  pub none : NoneShared f haystack start passed.stop
  pub far : passed.stop < passed.at → start + 3 ≤ passed.stop
  pub stops : passed.stop < passed.at → PassesAt f haystack (passed.stop - 3)
  pub looked : passed.at ≤ passed.stop → IsLookedUp passed.before f haystack start passed.at

-- the buckets that the first four bytes of a text share by their low nibbles, by the table for each position
abbrev pub shared_lows : FingerprintsValue → (ℕ → ℕ) → ℕ
shared_lows f text =
    bit_and (bit_and (low_of f.first (text 0)) (low_of f.second (text 1)))
    (bit_and (low_of f.third (text 2)) (low_of f.fourth (text 3)))

-- the same by their high nibbles
abbrev pub shared_highs : FingerprintsValue → (ℕ → ℕ) → ℕ
shared_highs f text =
    bit_and (bit_and (high_of f.first (text 0)) (high_of f.second (text 1)))
    (bit_and (high_of f.third (text 2)) (high_of f.fourth (text 3)))
