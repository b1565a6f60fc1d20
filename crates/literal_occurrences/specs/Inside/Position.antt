-- The fields of a `Position`.
use Rattle.std.specs.Prelude.{◌↔◌, ℕ, ◌+◌, ◌<◌, ◌≤◌, List, length, slice_index}
use Rattle.literal_base.specs.declared.search.Span.{Span}
use Rattle.literal_base.specs.MatchValue.{MatchValue}
use Rattle.literal_base.specs.Occurs.{between}
use Rattle.literal_rows.specs.Inside.Suffixes.{AreSuffixes}
use Rattle.literal_occurrences.specs.Inside.NextEnd.{IsWalkAt}
use Rattle.literal_rows.specs.Inside.Walk.{text_of}
use Rattle.literal_occurrences.specs.OverlappingMatchesValue.{IsToCome, OverlappingMatchesValue}
use Rattle.literal_occurrences.specs.PreparedOverlapping.{Tables, overlapping_value, texts_in}
use Rattle.literal_occurrences.specs.declared.position.Position.{Position}
use Rattle.literal_rows.specs.declared.walk.WalkEnd.{WalkEnd}

-- the classes of the bytes of a span that were read
abbrev pub read_of : Tables → List ℕ → Span → ℕ → List ℕ
read_of t haystack span at = text_of t.classes haystack (between span.start at)

-- a search is at an offset of the span: in a row from which a walk finds later ends, unless the span ends there, and
-- with the rest of a list of patterns that end there
pub record IsPosition (t : Tables) (haystack : List ℕ) (span : Span) (s : Position) : Type 0 where
  pub after : span.start ≤ s.at
  pub inside : s.at ≤ span.end
  pub stands : s.at < span.end → IsWalkAt t.patterns t.ignore_case t.classes t.width t.rows haystack span s.at
      (record { row = s.row; end = s.at })
  pub ordered : s.next ≤ s.end
  pub within : s.end ≤ length t.ends
  pub left : AreSuffixes (texts_in t) (read_of t haystack span s.at) s.pattern t.ends s.next s.end

-- the position of a search, as callers see it
abbrev pub position_value : Tables → List ℕ → Span → Position → OverlappingMatchesValue
position_value t haystack span s =
    record { search = overlapping_value t; haystack = haystack; span = span; end = s.at; pattern = s.pattern }

-- the same occurrences are to come at two positions
abbrev pub HaveSameToCome : OverlappingMatchesValue → OverlappingMatchesValue → Type 0
HaveSameToCome one other = (found : MatchValue) → IsToCome one found ↔ IsToCome other found

-- the pattern named by the row where a walk stopped
abbrev pub longest_at : Tables → WalkEnd → ℕ
longest_at t stop = slice_index t.rows (stop.row + t.width)

-- the position after this walk: before all patterns that end there
abbrev pub position_at : Tables → WalkEnd → Position
position_at t stop = record {
  at = stop.end;
  row = stop.row;
  pattern = 0;
  next = slice_index t.starts (longest_at t stop);
  end = slice_index t.starts (longest_at t stop + 1);
}
