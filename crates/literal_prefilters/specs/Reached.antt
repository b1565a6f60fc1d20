-- The offsets of a span at which a confirming search by a table tries the patterns.
use Rattle.std.specs.Prelude.{ℕ, ◌+◌, ◌-◌, Bool, false, List, Option, count_by, nat_le, option_map, slice_index}
use Rattle.std.specs.Prelude.{unwrap_or}
use Rattle.std.specs.List.{range_with_len}
use Rattle.literal_base.specs.declared.search.Span.{Span}
use Rattle.literal_base.specs.Occurs.{between}
use Rattle.literal_prefilters.specs.Table.{distance_of, first_place}

-- the offset `at` of a table byte is at most the byte's distance after another offset
abbrev pub is_within_distance : List (Option ℕ) → List ℕ → ℕ → ℕ → Bool
is_within_distance table haystack place at =
    nat_le at (place + unwrap_or (distance_of table (slice_index haystack at)) 0)

-- the first table byte from an offset on, before the end, is at most its distance after the offset. The byte then
-- reaches the offset
abbrev pub is_reached : List (Option ℕ) → List ℕ → ℕ → ℕ → Bool
is_reached table haystack end place =
    unwrap_or (option_map (is_within_distance table haystack place) (first_place table haystack (between place end)))
    false

-- the number of offsets of the span before an offset that the next table byte reaches
abbrev pub reached_count : List (Option ℕ) → List ℕ → Span → ℕ → ℕ
reached_count table haystack span before =
    count_by (is_reached table haystack span.end) (range_with_len span.start (before - span.start))
