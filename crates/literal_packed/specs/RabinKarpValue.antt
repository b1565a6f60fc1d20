-- Patterns in 64 buckets, by the sums of their first bytes: `RabinKarp`, as contracts see it.
use Rattle.std.specs.Prelude.{◌≡◌, ℕ, ◌<◌, ◌%◌, ◌==◌, List, [], length, map, filter, slice_index_or}
use Rattle.literal_packed.specs.PatternsValue.{PatternsValue, IsSearchable, minimum_len_of}
use Rattle.literal_packed.specs.Pairs.{key_of}

-- a `RabinKarp` as contracts see it: the number of bytes of each pattern that are summed, and the entries of each
-- bucket, each with a sum and an identifier
pub record RabinKarpValue : Type 0 where
  pub minimum_len : ℕ
  pub buckets : List (List (ℕ × ℕ))

-- the entries of a bucket
abbrev pub bucket_at : RabinKarpValue → ℕ → List (ℕ × ℕ)
bucket_at b k = slice_index_or b.buckets k []

-- the entry of each pattern, with its key, in match order
abbrev pub entries_of : PatternsValue → List (ℕ × ℕ)
entries_of c = map (λ i. (key_of c.patterns i, i)) c.order

-- the entries whose key is k modulo 64
abbrev pub bucket_of : PatternsValue → ℕ → List (ℕ × ℕ)
bucket_of c k = filter (λ e. e.0 % 64 == k) (entries_of c)

-- a `RabinKarp` is made for these patterns: there is at least one, they are in match order, and bucket k has the
-- entries whose key is k modulo 64, in match order
pub record IsMadeFor (c : PatternsValue) (b : RabinKarpValue) : Type 0 where
  pub searchable : IsSearchable c
  pub some : 0 < length c.patterns
  pub minimum_len : b.minimum_len ≡ minimum_len_of c.patterns
  pub each : length b.buckets ≡ 64
  pub buckets : (k : ℕ) → k < 64 → bucket_at b k ≡ bucket_of c k
