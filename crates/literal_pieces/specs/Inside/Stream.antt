-- The known part of a text that is read in pieces, and what a search finds in it.
use Rattle.std.specs.Prelude.{⊤, ◌≡◌, ℕ, ◌+◌, ◌-◌, ◌*◌, ◌<◌, ◌≤◌, ◌^◌, ◌++◌, Bool, false, List, None, Option, Some, []}
use Rattle.std.specs.Prelude.{drop, if◌then◌else◌, is_none, length, max, true}
use Rattle.std.specs.Io.KnownBytes.{IsAtEnd}
use Rattle.std.specs.IoError.{error_kind}
use Rattle.std.specs.List.{slice_range}
use Rattle.std.specs.Option.{option_map}
use Rattle.literal_base.specs.MatchValue.{MatchValue}
use Rattle.literal_base.specs.Occurs.{IsValidSpan}
use Rattle.literal_leftmost.specs.SearchValue.{SearchValue}
use Rattle.literal_pieces.specs.Stream.{PassesOver, ReadsPiece, StreamValue}
use Rattle.literal_words.specs.WholeWords.{most_at_start}
use Rattle.literal_leftmost.specs.Inside.Backward.{ForBackward}
use Rattle.literal_leftmost.specs.Inside.Cursor.{IsCursor, KnowsAhead, look_ups_of}
use Rattle.literal_pieces.specs.declared.reading.Reading.{Reading}
use Rattle.literal_pieces.specs.declared.sought.BlockSearch.{BlockSearch}
use Rattle.literal_pieces.specs.Inside.Sought.{AreTablesOf, LooksFrom, SoughtValue, by_matches, by_words, margin_of}
use Rattle.literal_pieces.specs.Inside.Sought.{most_in_block, reach_of, search_of}
use Rattle.literal_leftmost.specs.declared.so_far.SoFar.{SoFar}
use Rattle.literal_leftmost.specs.declared.so_far.SoFar.TheVariants.{Found, NoneBefore}
use Rattle.literal_pieces.specs.declared.window.Window.{Window}

-- the bytes that were read and may still be needed
abbrev pub held : Window → List ℕ
held w = slice_range w.bytes.items w.start w.end

-- the bytes of a block: those that are held, and those that were dropped since it began
abbrev pub block : Window → List ℕ
block w = slice_range w.bytes.items (w.start - w.passed) w.end

-- the bytes lie in the room, and the offset after them fits a `usize`
pub record IsWindow (w : Window) : Type 0 where
  pub ordered : w.start ≤ w.end
  pub inside : w.end ≤ length w.bytes.items
  pub passed : w.passed ≤ w.start
  pub begins : w.passed ≤ w.offset
  pub fits : w.offset + (w.end - w.start) < 2 ^ 64

-- more may be read: the text has not ended, and reading has not failed
abbrev pub IsOpen : Reading → Type 0
IsOpen r = (r.is_whole ≡ false) × (r.error ≡ None)

-- a piece is read, or nothing and no change once the text has ended or reading has failed
abbrev pub HasReadOn : Reading → List ℕ → Reading → Type 0
HasReadOn old piece new = ¬ IsOpen old → (piece ≡ []) × (new ≡ old)

-- the text has ended only if nothing is left and reading did not fail, and an error is kept until it is given
pub record IsSoundReading (r : Reading) (unread : Option (List ℕ)) : Type 0 where
  pub whole : r.is_whole ≡ true → IsAtEnd unread
  pub apart : r.is_whole ≡ true → r.error ≡ None
  pub failure : r.failure ≡ option_map error_kind r.error

-- the same of a search through a window, which has room for more than twice the bytes that decide about a match
pub record IsSoundStream (reach : ℕ) (w : Window) (r : Reading) (unread : Option (List ℕ)) : Type 0 where
  pub window : IsWindow w
  pub room : 2 * reach < length w.bytes.items
  pub reading : IsSoundReading r unread

-- a search goes through a block, and continues at an offset of it
pub record IsThrough (sought : SoughtValue) (block : List ℕ) (at : ℕ) (s : BlockSearch) : Type 0 where
  pub valid : IsValidSpan block s.span
  pub whole : s.span.end ≡ length block
  pub cursor : IsCursor s.words.backward.table.longest s.span s.cursor
  pub knows : ForBackward s.words.backward (λ tables. KnowsAhead tables block s.span s.cursor)
  pub looks_from : LooksFrom sought s.cursor.at at
  pub inside : at ≤ s.span.end

-- if it has begun, it goes through the block of a window, and continues at an offset of the text. Unless no more can
-- be read, the block and the bytes held before it are at least twice as many as those that decide about a match
pub record IsSearchIn (sought : SoughtValue) (w : Window) (r : Reading) (at : ℕ) (s : BlockSearch) : Type 0 where
  pub tables : AreTablesOf sought s.words
  pub through : s.is_begun ≡ true → IsThrough sought (block w) (at - (w.offset - w.passed)) s
  pub long : s.is_begun ≡ true → IsOpen r
      → 2 * reach_of sought ≤ (s.span.end - s.span.start) + margin_of sought

-- the most bytes that a search has looked up in its block so far
abbrev pub looked_in_block : SoughtValue → BlockSearch → ℕ
looked_in_block (by_matches search) s = (look_ups_of s.words.backward.table.longest s.span s.cursor).most
looked_in_block (by_words words) s = (look_ups_of s.words.backward.table.longest s.span s.cursor).most
    + (s.cursor.at - s.span.start) * most_at_start s.words.backward.table.longest

-- the most bytes that it has looked up in the text so far. Each byte before its block was in at most two blocks
unfoldable pub looked_so_far : SoughtValue → Window → ℕ → BlockSearch → ℕ
looked_so_far sought w at s = if s.is_begun
    then 2 * most_in_block sought ((w.offset - w.passed) + s.span.start) + looked_in_block sought s
    else 2 * most_in_block sought at

-- the offset before which no byte is looked up again after an answer: if reading failed, the end of all that was read
abbrev pub done_to : Window → Reading → SoFar → ℕ
done_to w r (Found found) = found.end
done_to w r (NoneBefore offset) = if is_none r.error then offset else w.offset + length (held w)

-- after a match in a block it continues at its end
abbrev pub GoesOnAfter : SoughtValue → List ℕ → BlockSearch → SoFar → Type 0
GoesOnAfter sought block s (Found found) = IsThrough sought block found.end s
GoesOnAfter sought block s (NoneBefore offset) = ⊤

-- the held bytes begin so many bytes before the offset at which a search continues, or at the start of the text. They
-- reach this offset
pub record AreHeldFrom (margin at : ℕ) (w : Window) : Type 0 where
  pub begin : w.offset ≡ at - margin
  pub reach : at ≤ w.offset + length (held w)

-- how many of the last bytes a match may still begin in: none if the text has ended
abbrev pub kept_back : ℕ → Bool → ℕ
kept_back reach is_whole = if is_whole then 0 else reach - 1

-- a match lies between two offsets and is not empty; an offset is after all bytes between them but those where a match
-- may begin
abbrev pub IsFirstKnown : ℕ → Bool → ℕ → ℕ → SoFar → Type 0
IsFirstKnown reach is_whole at end (Found found) = (at ≤ found.start) × (found.start < found.end) × (found.end ≤ end)
IsFirstKnown reach is_whole at end (NoneBefore offset) = offset ≡ max at (end - kept_back reach is_whole)

-- a search that continues at an offset, as contracts see it
abbrev pub stream_value : SoughtValue → Window → ℕ → BlockSearch → Reading → Option (List ℕ) → Bool → StreamValue
stream_value sought w at s r unread is_over = record {
  search = search_of sought;
  held = held w;
  unread = unread;
  offset = at;
  failure = r.failure;
  is_whole = r.is_whole;
  is_over = is_over;
  look_ups = looked_so_far sought w at s;
}

-- unless it is over, it is sound, and its search is in its window
abbrev pub GoesOn : SoughtValue → Window → ℕ → BlockSearch → Reading → Option (List ℕ) → Bool → Type 0
GoesOn sought w at s r unread is_over = is_over ≡ false → IsSoundStream (reach_of sought) w r unread
    × AreHeldFrom (margin_of sought) at w × IsSearchIn sought w r at s

-- the match, so many bytes later
abbrev pub shifted : ℕ → MatchValue → MatchValue
shifted base found = record { pattern = found.pattern; start = found.start + base; end = found.end + base }

-- the same answer, so many bytes later
abbrev pub told_later : ℕ → SoFar → SoFar
told_later base (Found found) = Found (shifted base found)
told_later base (NoneBefore offset) = NoneBefore (offset + base)

module _ (IsFirst : List ℕ → ℕ → Option MatchValue → Type 0) (Begins : List ℕ → ℕ → ℕ → ℕ → Type 0) (margin : ℕ) where
  -- the bytes from an offset to a later one were passed over, and the others are held
  pub record HasPassed (from to : ℕ) (seen rest : List ℕ) : Type 0 where
    pub later : from ≤ to
    pub within : (to - margin) - (from - margin) ≤ length seen
    pub rest_is : rest ≡ drop ((to - margin) - (from - margin)) seen
    pub passed : (more : List ℕ) → PassesOver IsFirst Begins margin from to (seen ++ more)

  -- a search has read a piece and passed over bytes
  pub record HasGoneOn (old new : StreamValue) : Type 0 where
    pub piece : List ℕ
    pub search_is : new.search ≡ old.search
    pub is_over : new.is_over ≡ old.is_over
    pub reads : ReadsPiece old piece new
    pub stays : old.is_whole ≡ true → (piece ≡ []) × (new.is_whole ≡ true)
    pub passed : HasPassed old.offset new.offset (old.held ++ piece) new.held

  -- a search is in this text: the bytes ahead are the text from its offset on
  pub record GoesThrough (search : SearchValue) (text : List ℕ) (m : StreamValue) : Type 0 where
    pub before : List ℕ
    pub rest : List ℕ
    pub search_is : m.search ≡ search
    pub unread : m.unread ≡ Some rest
    pub offset : length before ≡ m.offset - margin
    pub whole : before ++ (m.held ++ rest) ≡ text
    pub not_over : m.is_over ≡ false
