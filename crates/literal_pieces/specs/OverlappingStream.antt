-- Every occurrence in a text that is read in pieces.
use Rattle.std.specs.Prelude.{◌≡◌, ℕ, ◌+◌, ◌-◌, ◌*◌, ◌<◌, ◌≤◌, ◌^◌, ◌++◌, ◌⊎◌, [], Bool, false, true, List, MatchResult}
use Rattle.std.specs.Prelude.{None, Option, Result, Some, drop, length, take, if◌then◌else◌}
use Rattle.std.specs.Io.KnownBytes.{IsAtEnd}
use Rattle.std.specs.IoError.{error_kind}
use Rattle.std.specs.declared.io.ErrorKind.{ErrorKind}
use Rattle.std.specs.Iterator.{Count, at_most}
use Rattle.std.specs.declared.io.Error.{Error}
use Rattle.literal_base.specs.Counts.{Counts}
use Rattle.literal_base.specs.MatchValue.{MatchValue}
use Rattle.literal_base.specs.Occurs.{whole_of}
use Rattle.literal_occurrences.specs.Automaton.{IsStateAfter}
use Rattle.literal_occurrences.specs.Overlapping.{OverlappingValue}
use Rattle.literal_occurrences.specs.OverlappingMatchesValue.{IsNextToCome, IsToCome, OverlappingMatchesValue}
use Rattle.literal_occurrences.specs.PreparedOverlapping.{IsNotBefore, Tables, overlapping_value}
use Rattle.literal_pieces.specs.Stream.{ReadsOn}

-- an `OverlappingStreamMatches` as contracts see it: the automaton, its state after the bytes before an offset, this
-- offset, the number from which patterns that end there are still to come, the bytes ahead that were read, the bytes
-- still to be read if they are known, the kind of the error if reading failed, and whether it has ended
pub record OverlappingStreamValue : Type 0 where
  pub tables : Tables
  pub state : ℕ
  pub offset : ℕ
  pub pattern : ℕ
  pub held : List ℕ
  pub unread : Option (List ℕ)
  pub failure : Option ErrorKind
  pub is_over : Bool

-- these may be the bytes before the offset: so many, and the automaton is in this state after them
pub record MayComeBefore (m : OverlappingStreamValue) (before : List ℕ) : Type 0 where
  pub long : length before ≡ m.offset
  pub after : IsStateAfter m.tables before m.state

-- the search for every occurrence in a whole text, from the same offset and pattern number on
abbrev pub search_within : OverlappingStreamValue → List ℕ → OverlappingMatchesValue
search_within m text = record {
  search = overlapping_value m.tables;
  haystack = text;
  span = whole_of text;
  end = m.offset;
  pattern = m.pattern;
}

-- a search for every occurrence that has not begun, in what a reader gives, if that is known
pub record BeginsStream (search : OverlappingValue) (unread : Option (List ℕ)) (m : OverlappingStreamValue)
    : Type 0 where
  pub search_is : overlapping_value m.tables ≡ search
  pub nothing_read : MayComeBefore m []
  pub begins : m ≡ record m {
    offset = 0;
    pattern = 0;
    held = [];
    unread = unread;
    failure = None;
    is_over = false;
  }

-- a piece of the unread bytes is read, but only if what is found ends after the bytes that were read before
pub record ReadsIfNeeded (old : OverlappingStreamValue) (piece : List ℕ) (new : OverlappingStreamValue) (end : ℕ)
    : Type 0 where
  pub reads : ReadsOn old.unread old.failure piece new.unread new.failure
  pub needed : (piece ≡ []) ⊎ (old.offset + length old.held < end)

-- the answer is the first occurrence that is to come, whatever came before and whatever follows the bytes read. The
-- search continues after it
pub record GoesToEnd (old : OverlappingStreamValue) (found : MatchValue) (new : OverlappingStreamValue) : Type 0 where
  pub piece : List ℕ
  pub reads : ReadsIfNeeded old piece new found.end
  pub is_pattern : found.pattern < length old.tables.patterns
  pub ordered : IsNotBefore found.end found.pattern old.offset old.pattern
  pub within : found.end - old.offset ≤ length (old.held ++ piece)
  pub fits : found.end < 2 ^ 64
  pub next : (before more : List ℕ) → MayComeBefore old before
      → IsNextToCome (search_within old (before ++ ((old.held ++ piece) ++ more))) found
  pub leads : (before : List ℕ) → MayComeBefore old before
      → MayComeBefore new (before ++ take (found.end - old.offset) (old.held ++ piece))
  pub goes_on : new ≡ record old {
    state = new.state;
    offset = found.end;
    pattern = found.pattern + 1;
    held = drop (found.end - old.offset) (old.held ++ piece);
    unread = new.unread;
    failure = new.failure;
  }

-- the search has ended, past all bytes that were read
pub record IsPastAll (old : OverlappingStreamValue) (piece : List ℕ) (new : OverlappingStreamValue) : Type 0 where
  pub reads : ReadsOn old.unread old.failure piece new.unread new.failure
  pub over : new ≡ record old {
    state = new.state;
    offset = old.offset + length (old.held ++ piece);
    pattern = new.pattern;
    held = [];
    unread = new.unread;
    failure = new.failure;
    is_over = true;
  }

-- the text has ended, no reading failed, and no occurrence is to come
pub record EndsAfterAll (old new : OverlappingStreamValue) : Type 0 where
  pub piece : List ℕ
  pub past : IsPastAll old piece new
  pub end : IsAtEnd new.unread
  pub no_failure : new.failure ≡ None
  pub nothing : (before : List ℕ) → MayComeBefore old before → (found : MatchValue)
      → ¬ IsToCome (search_within old (before ++ (old.held ++ piece))) found

-- reading failed with the error, and no occurrence that ends in the bytes read is to come, whatever follows
pub record FailsAfterAll (old : OverlappingStreamValue) (error : Error) (new : OverlappingStreamValue) : Type 0 where
  pub piece : List ℕ
  pub past : IsPastAll old piece new
  pub failure : new.failure ≡ Some (error_kind error)
  pub nothing : (before more : List ℕ) → MayComeBefore old before → (found : MatchValue)
      → IsToCome (search_within old (before ++ ((old.held ++ piece) ++ more))) found → new.offset < found.end

-- the answer of `next`: the first occurrence that is to come, None if there is none, or the error with which reading
-- failed. After None or an error it has ended, always gives None, and is unchanged
abbrev pub GivesInStream : OverlappingStreamValue → Option (Result MatchValue Error) → OverlappingStreamValue → Type 0
GivesInStream old None new = (old.is_over ≡ true → new ≡ old) × (old.is_over ≡ false → EndsAfterAll old new)
GivesInStream old (Some answer) new = (old.is_over ≡ false)
    × MatchResult answer (λ found. GoesToEnd old found new) (λ error. FailsAfterAll old error new)

-- it scans each byte once: those between the offsets before and after
abbrev pub ScansOnce : ℕ → ℕ → Counts → Counts → Type 0
ScansOnce from to old new = new ≡ record old { scanned = old.scanned + (to - from) }

-- an upper bound on the answers to come: each pattern once at each end, and an error is the last answer
abbrev pub most_in_stream : OverlappingStreamValue → Count
most_in_stream m = at_most (if m.is_over then 0 else
    (2 ^ 64 - m.offset) * length m.tables.patterns + (length m.tables.patterns - m.pattern) + 1)
