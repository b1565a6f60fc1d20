-- The search of short pieces at the start of a span.
use Rattle.std.specs.Prelude.{◌≡◌, ◌⊎◌, ℕ, ◌+◌, ◌*◌, ◌<◌, ◌≤◌, List, MatchOption, Some, slice_index}
use Rattle.literal_base.specs.Leftmost.{IsLeftmostMatch}
use Rattle.literal_base.specs.declared.search.Span.{Span}
use Rattle.literal_leftmost.specs.Inside.Backward.{NoneFrom}
use Rattle.literal_rows.specs.Inside.Walk.{classes_by}
use Rattle.literal_leftmost.specs.Prepared.{BackTables}
use Rattle.literal_leftmost.specs.SearchValue.{LooksFor, first_part}
use Rattle.literal_leftmost.specs.declared.backward.Backward.{Backward}
use Rattle.literal_leftmost.specs.declared.near.FirstLook.{FirstLook}
use Rattle.literal_leftmost.specs.declared.near.Piece.{Piece}

-- the byte at an offset has the last class, which no byte of a pattern has
abbrev pub IsGap : List ℕ → ℕ → List ℕ → ℕ → Type 0
IsGap classes width haystack at = slice_index classes (slice_index haystack at) + 1 ≡ width

-- a short piece of a span. A match that begins in it may end anywhere in the span, or, if the byte after the piece is
-- in no pattern, ends in the piece
pub record IsPiece (b : Backward) (haystack : List ℕ) (span : Span) (at : ℕ) (piece : Piece) : Type 0 where
  pub some : at < piece.end
  pub ordered : piece.end ≤ piece.reach
  pub inside : piece.reach ≤ span.end
  pub short : piece.end ≤ at + 12 * first_part b.table.longest
  pub whole : (piece.reach ≡ span.end)
      ⊎ ((piece.end ≡ piece.reach) × (piece.reach < span.end)
      × IsGap (classes_by b.table) b.table.width haystack piece.reach)

-- a match that is found is the leftmost one of the span. If none is found, no occurrence begins before an offset
abbrev pub IsFirstLook : BackTables → List ℕ → Span → FirstLook → Type 0
IsFirstLook p haystack span near = MatchOption near.found (NoneFrom p haystack span.end span.start near.at)
    (IsLeftmostMatch p.search.query p.search.ignore_case haystack span)

-- the bytes looked up: for a match, as many as for any leftmost match; else each byte before that offset once to three
-- times
abbrev pub ReadsFirstLook : ℕ → Span → ℕ → ℕ → FirstLook → Type 0
ReadsFirstLook longest span old new near = MatchOption near.found
    ((old + near.at ≤ new + span.start) × (new + 3 * span.start ≤ old + 3 * near.at))
    (λ found. LooksFor longest span (Some found) old new)
