-- How many pairs of an offset and a pattern have equal sums, and what a search counts. The window of an offset has as
-- many bytes as the shortest pattern.
use Rattle.std.specs.Prelude.{ℕ, ◌+◌, ◌-◌, ◌%◌, Bool, ◌&&◌, ◌||◌, ◌==◌, nat_lt, if◌then◌else◌, List, length, take}
use Rattle.std.specs.Prelude.{Option, Some, None, count_by, sum_by, slice_range}
use Rattle.std.specs.List.{range_with_len}
use Rattle.literal_base.specs.declared.search.Span.{Span}
use Rattle.literal_base.specs.Counts.{Counts}
use Rattle.literal_base.specs.MatchValue.{MatchValue}
use Rattle.literal_base.specs.Leftmost.{is_better}
use Rattle.literal_base.specs.Occurs.{pattern_at}
use Rattle.literal_base.specs.Query.{Query}
use Rattle.literal_packed.specs.PatternsValue.{minimum_len_of}
use Rattle.literal_packed.specs.Sum.{sum_of}

-- the key of a pattern: the sum of its first bytes, up to the length of a window
abbrev pub key_of : List (List ℕ) → ℕ → ℕ
key_of patterns i = sum_of (take (minimum_len_of patterns) (pattern_at patterns i))

-- the sum of the window of an offset
abbrev pub window_sum : List (List ℕ) → List ℕ → ℕ → ℕ
window_sum patterns haystack at = sum_of (slice_range haystack at (at + minimum_len_of patterns))

-- the sum of the window at the offset equals the key of pattern i
abbrev pub has_equal_sum : List (List ℕ) → List ℕ → ℕ → ℕ → Bool
has_equal_sum patterns haystack at i = key_of patterns i == window_sum patterns haystack at

-- the two sums are equal modulo 64
abbrev pub has_equal_bucket : List (List ℕ) → List ℕ → ℕ → ℕ → Bool
has_equal_bucket patterns haystack at i = key_of patterns i % 64 == window_sum patterns haystack at % 64

-- the number of patterns that pass a test at an offset
abbrev pub pairs_at : (ℕ → ℕ → Bool) → ℕ → ℕ → ℕ
pairs_at test n at = count_by (test at) (range_with_len 0 n)

-- the number of patterns that pass a test at an offset and are pattern j or preferred to it
abbrev pub pairs_at_up_to : (ℕ → ℕ → Bool) → Query → ℕ → ℕ → ℕ
pairs_at_up_to test query at j =
    count_by (λ i. test at i && (i == j || is_better query.kind query.patterns i j))
    (range_with_len 0 (length query.patterns))

-- the number of pairs of an offset and a pattern that pass a test, for from ≤ offset < to and patterns below n
abbrev pub pairs_between : (ℕ → ℕ → Bool) → ℕ → ℕ → ℕ → ℕ
pairs_between test n from to = sum_by (pairs_at test n) (range_with_len from (to - from))

-- the number of pairs that pass a test, for the offsets whose window lies in the span
abbrev pub pairs_in : (ℕ → ℕ → Bool) → List (List ℕ) → Span → ℕ
pairs_in test patterns span =
    pairs_between test (length patterns) span.start (span.end + 1 - minimum_len_of patterns)

-- the number of pairs with equal sums, for the offsets whose window lies in the span
abbrev pub equal_pairs : List (List ℕ) → List ℕ → Span → ℕ
equal_pairs patterns haystack span = pairs_in (has_equal_sum patterns haystack) patterns span

-- the number of pairs with sums that are equal modulo 64, for the offsets whose window lies in the span
abbrev pub bucket_pairs : List (List ℕ) → List ℕ → Span → ℕ
bucket_pairs patterns haystack span = pairs_in (has_equal_bucket patterns haystack) patterns span

-- the number of pairs that pass a test up to an answer. Without a match, these are all in the span. With a match, they
-- are those of earlier offsets and, at its own offset, those of its pattern and of preferred ones
abbrev pub pairs_up_to : (ℕ → ℕ → Bool) → Query → Span → Option MatchValue → ℕ
pairs_up_to test query span None = pairs_in test query.patterns span
pairs_up_to test query span (Some found) =
    pairs_between test (length query.patterns) span.start found.start + pairs_at_up_to test query found.start
    found.pattern

-- the number of bytes in the sums up to an answer. With a match, these are the bytes of the span up to the end of the
-- window at its start. Without one, these are all bytes, or none if the span is shorter than a window
abbrev pub hashed_up_to : List (List ℕ) → Span → Option MatchValue → ℕ
hashed_up_to patterns span None =
    if nat_lt (span.end - span.start) (minimum_len_of patterns) then 0 else span.end - span.start
hashed_up_to patterns span (Some found) = found.start + minimum_len_of patterns - span.start

-- the counts after a search in a span with this answer: `hashed` grows as `hashed_up_to` says, `entries` by the pairs
-- in equal buckets up to the answer, `compared` by those with equal sums; the others are unchanged
abbrev pub counts_after : Counts → Query → List ℕ → Span → Option MatchValue → Counts
counts_after old query haystack span answer = record old {
  hashed = old.hashed + hashed_up_to query.patterns span answer;
  entries = old.entries + pairs_up_to (has_equal_bucket query.patterns haystack) query span answer;
  compared = old.compared + pairs_up_to (has_equal_sum query.patterns haystack) query span answer;
}
