-- The position of a search for every occurrence in a text that is read in pieces.
use Rattle.std.specs.Prelude.{◌≡◌, ◌==◌, ℕ, ◌+◌, ◌-◌, ◌≤◌, ◌++◌, Bool, List, Option, drop, if◌then◌else◌, length, Some}
use Rattle.std.specs.Prelude.{false, slice_index, take}
use Rattle.literal_base.specs.Occurs.{whole_of}
use Rattle.literal_occurrences.specs.Automaton.{AreAtEnd, IsStateAfter}
use Rattle.literal_occurrences.specs.Overlapping.{OverlappingValue}
use Rattle.literal_pieces.specs.OverlappingStream.{MayComeBefore, OverlappingStreamValue, ReadsIfNeeded, search_within}
use Rattle.literal_occurrences.specs.PreparedOverlapping.{Tables, overlapping_value}
use Rattle.literal_occurrences.specs.Inside.Position.{HaveSameToCome}
use Rattle.literal_pieces.specs.Inside.Stream.{held}
use Rattle.literal_pieces.specs.declared.overlapping_stream.Place.{Place}
use Rattle.literal_pieces.specs.declared.reading.Reading.{Reading}
use Rattle.literal_pieces.specs.declared.window.Window.{Window}

-- the least pattern number that is still to come, after so many of a list were given
abbrev pub pattern_after : List ℕ → ℕ → ℕ
pattern_after ending given = if given == 0 then 0 else slice_index ending (given - 1) + 1

-- a stream as contracts see it
abbrev pub overlapping_stream : Tables → Place → Window → Reading → Option (List ℕ) → Bool → OverlappingStreamValue
overlapping_stream tables p w r unread is_over = record {
  tables = tables;
  state = p.state;
  offset = w.offset;
  pattern = pattern_after p.ending.now p.given;
  held = held w;
  unread = unread;
  failure = r.failure;
  is_over = is_over;
}

-- the state is that after some text of this length, and the list has the patterns that end with each text that leads to
-- the state
pub record IsSoundPlace (tables : Tables) (offset : ℕ) (p : Place) : Type 0 where
  pub text : List ℕ
  pub long : length text ≡ offset
  pub after : IsStateAfter tables text p.state
  pub ending : (text : List ℕ) → IsStateAfter tables text p.state
      → AreAtEnd tables.patterns tables.ignore_case text (whole_of text) p.ending.now
  pub given : p.given ≤ length p.ending.now

-- a search has read a piece and gone on, and the same occurrences are still to come
pub record HasCome (old new : OverlappingStreamValue) : Type 0 where
  pub piece : List ℕ
  pub reads : ReadsIfNeeded old piece new new.offset
  pub later : old.offset ≤ new.offset
  pub within : new.offset - old.offset ≤ length (old.held ++ piece)
  pub goes_on : new ≡ record old {
    state = new.state;
    offset = new.offset;
    pattern = new.pattern;
    held = drop (new.offset - old.offset) (old.held ++ piece);
    unread = new.unread;
    failure = new.failure;
  }
  pub leads : (before : List ℕ) → MayComeBefore old before
      → MayComeBefore new (before ++ take (new.offset - old.offset) (old.held ++ piece))
  pub same_to_come : (before more : List ℕ) → MayComeBefore old before
      → HaveSameToCome (search_within old (before ++ ((old.held ++ piece) ++ more)))
      (search_within new (before ++ ((old.held ++ piece) ++ more)))

-- a search for every occurrence is in this text: the bytes ahead are the text from its offset on
pub record GoesOver (search : OverlappingValue) (text : List ℕ) (m : OverlappingStreamValue) : Type 0 where
  pub before : List ℕ
  pub rest : List ℕ
  pub search_is : overlapping_value m.tables ≡ search
  pub unread : m.unread ≡ Some rest
  pub may_come : MayComeBefore m before
  pub whole : before ++ (m.held ++ rest) ≡ text
  pub not_over : m.is_over ≡ false
