-- The fields of `BucketEntries`: the entries of all buckets in one list, bucket after bucket.
use Rattle.std.specs.Prelude.{◌≡◌, ◌≢◌, ◌↔◌, ℕ, ◌+◌, ◌-◌, ◌%◌, ◌≤◌, ◌<◌, Bool, IsTrue, ◌==◌, nat_lt, if◌then◌else◌}
use Rattle.std.specs.Prelude.{List, [], length, map, take, drop, filter, slice_range, slice_index_or}
use Rattle.std.specs.Int.{bit_at}
use Rattle.std.specs.List.{range_with_len}
use Rattle.std.specs.List.Sorted.{IsPartitionPoint}

-- the number of an entry's bucket
abbrev pub bucket_number : ℕ × ℕ → ℕ
bucket_number e = e.0 % 64

-- the index at which bucket k begins
abbrev pub start_at : List ℕ → ℕ → ℕ
start_at starts k = slice_index_or starts k 0

-- the part of the list of entries that is bucket k
abbrev pub part_at : List ℕ → List (ℕ × ℕ) → ℕ → List (ℕ × ℕ)
part_at starts entries k = slice_range entries (start_at starts k) (start_at starts (k + 1))

-- the 64 buckets. Abstract: otherwise a proof would have a list of 64 terms wherever a `BucketEntries` is opened or
-- dropped
unfoldable pub entry_buckets : List ℕ → List (ℕ × ℕ) → List (List (ℕ × ℕ))
entry_buckets starts entries = map (part_at starts entries) (range_with_len 0 64)

-- the index in the list between the entries of the buckets before k and those of the others
pub record IsStart (entries : List (ℕ × ℕ)) (k at : ℕ) : Type 0 where
  pub within : at ≤ length entries
  pub between : IsPartitionPoint (λ e. bucket_number e < k) (λ e. k ≤ bucket_number e) entries at

-- the index at which each bucket begins, and last the length of the list
abbrev pub AreStarts : List ℕ → List (ℕ × ℕ) → Type 0
AreStarts starts entries = (k : ℕ) → k < 65 → IsStart entries k (start_at starts k)

-- the number of entries in bucket k
abbrev pub len_at : List ℕ → ℕ → ℕ
len_at starts k = start_at starts (k + 1) - start_at starts k

-- entry i of bucket k or, if the bucket has no such entry, one whose sum is no sum of the bucket
pub record IsHead (i k : ℕ) (bucket : List (ℕ × ℕ)) (head : ℕ × ℕ) : Type 0 where
  pub of_entry : i < length bucket → head ≡ slice_index_or bucket i (0, 0)
  pub of_none : length bucket ≤ i → head.0 % 64 ≢ k

-- entry i of each bucket, or such an entry
abbrev pub AreHeads : ℕ → List ℕ → List (ℕ × ℕ) → List (ℕ × ℕ) → Type 0
AreHeads i starts entries heads =
    (k : ℕ) (d : ℕ × ℕ) → k < 64 → IsHead i k (part_at starts entries k) (slice_index_or heads k d)

-- bit k is set exactly if bucket k has more than two entries
abbrev pub AreLonger : List ℕ → ℕ → Type 0
AreLonger starts longer = (k : ℕ) → k < 64 → bit_at longer k ≡ (if nat_lt 2 (len_at starts k) then 1 else 0)

-- this is true exactly if no bucket has a second entry
abbrev pub IsSingle : List ℕ → Bool → Type 0
IsSingle starts single = IsTrue single ↔ ((k : ℕ) → k < 64 → len_at starts k ≤ 1)

-- the first and the second entries, the starts, the bits and the truth value are those of the list. Abstract: otherwise
-- each proof in which a `BucketEntries` is opened or dropped would have facts about all buckets
unfoldable pub IsLaidOut : List (ℕ × ℕ) → List (ℕ × ℕ) → List ℕ → ℕ → Bool → List (ℕ × ℕ) → Type 0
IsLaidOut firsts seconds starts longer single entries =
    AreStarts starts entries × AreHeads 0 starts entries firsts × AreHeads 1 starts entries seconds
    × AreLonger starts longer × IsSingle starts single

-- 64 buckets: bucket k has the entries of a list whose sum is k modulo 64, in the order of the list
pub record AreBucketsOf (entries : List (ℕ × ℕ)) (buckets : List (List (ℕ × ℕ))) : Type 0 where
  pub each : length buckets ≡ 64
  pub has : (k : ℕ) → k < 64 → slice_index_or buckets k [] ≡ filter (λ e. bucket_number e == k) entries

-- entry k of a bucket, as a list of one; or the empty list if the bucket has no such entry
abbrev pub entry_at : List (ℕ × ℕ) → ℕ → List (ℕ × ℕ)
entry_at bucket k = take 1 (drop k bucket)
