-- Byte tables: for each of the 256 bytes its distance, if it has one.
use Rattle.std.specs.Prelude.{◌≡◌, ℕ, ◌+◌, ◌-◌, ◌<◌, ◌≤◌, true, false, max, unwrap_or, Bool, List, Option, None, Some}
use Rattle.std.specs.Prelude.{IfSome, MatchOption}
use Rattle.std.specs.Prelude.{is_some, option_map, position, fold, sum_by, count_by, slice_index, slice_index_or}
use Rattle.std.specs.Prelude.{slice_range, if◌then◌else◌}
use Rattle.std.specs.List.{enumerate_from}
use Rattle.literal_base.specs.Rank.{rank_of}
use Rattle.literal_base.specs.declared.search.Span.{Span}
use Rattle.literal_base.specs.Occurs.{AreEqualBytes}
use Rattle.literal_base.specs.Bytes.{AreBytes}

-- the distance of a byte, or None if it is not in the table
abbrev pub distance_of : List (Option ℕ) → ℕ → Option ℕ
distance_of table byte = slice_index_or table byte None

-- whether a byte is in the table
abbrev pub is_in : List (Option ℕ) → ℕ → Bool
is_in table byte = is_some (distance_of table byte)

-- the number of bytes in the table
abbrev pub size : List (Option ℕ) → ℕ
size table = count_by is_some table

-- the rank of a byte with its entry, if it is in the table, otherwise 0
abbrev pub rank_at : (ℕ × Option ℕ) → ℕ
rank_at e = if is_some e.1 then rank_of e.0 else 0

-- the sum of the ranks of its bytes
abbrev pub rank_sum_of : List (Option ℕ) → ℕ
rank_sum_of table = sum_by rank_at (enumerate_from 0 table)

-- each distance is at most 254
abbrev pub AreDistances : List (Option ℕ) → Type 0
AreDistances table = (byte : ℕ) → IfSome (distance_of table byte) (λ d. d ≤ 254)

-- the largest distance
abbrev pub reach_of : List (Option ℕ) → ℕ
reach_of table = fold (λ most o. max most (unwrap_or o 0)) 0 table

-- the first offset of the span whose byte is in the table
abbrev pub first_place : List (Option ℕ) → List ℕ → Span → Option ℕ
first_place table haystack span =
    option_map (λ k. span.start + k) (position (is_in table) (slice_range haystack span.start span.end))

-- this is the first offset of the span whose byte is in the table
pub record IsFirst (table : List (Option ℕ)) (haystack : List ℕ) (span : Span) (place : ℕ) : Type 0 where
  pub after_start : span.start ≤ place
  pub before_end : place < span.end
  pub here : is_in table (slice_index haystack place) ≡ true
  pub none_before : (k : ℕ) → span.start ≤ k → k < place → is_in table (slice_index haystack k) ≡ false

-- the offset minus the distance of its byte, but at least the span's start
abbrev pub step_back : List (Option ℕ) → List ℕ → ℕ → ℕ → ℕ
step_back table haystack start place = max start (place - unwrap_or (distance_of table (slice_index haystack place)) 0)

-- the offset that a prefilter by this table proposes: the first offset of a table byte in the span, stepped back, or
-- None if there is none
abbrev pub proposed_place : List (Option ℕ) → List ℕ → Span → Option ℕ
proposed_place table haystack span = option_map (step_back table haystack span.start) (first_place table haystack span)

-- the number of bytes scanned: those of the span up to and including an offset, or all if there is none
abbrev pub bytes_scanned : Span → Option ℕ → ℕ
bytes_scanned span None = span.end - span.start
bytes_scanned span (Some place) = place + 1 - span.start

-- each case variant of the pattern has a byte in the table, and the distance of the first such byte is at least its
-- offset
abbrev pub Covers : List (Option ℕ) → Bool → List ℕ → Type 0
Covers table ignore_case pattern =
    (variant : List ℕ) → AreBytes variant → AreEqualBytes ignore_case variant pattern
    → MatchOption (position (is_in table) variant) ⊥
    (λ j. IfSome (distance_of table (slice_index variant j)) (λ d. j ≤ d))
