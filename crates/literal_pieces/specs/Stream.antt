-- Searches in a text of which only a beginning is known, or that is read in pieces.
use Rattle.std.specs.Prelude.{◌≡◌, ℕ, ◌+◌, ◌-◌, ◌*◌, ◌<◌, ◌≤◌, ◌^◌, ◌++◌, [], Bool, false, true, List}
use Rattle.std.specs.Prelude.{IfSome, MatchResult, None, Option, Result, Some, drop, length, max, if◌then◌else◌}
use Rattle.std.specs.Io.KnownBytes.{Consumes, IsAtEnd}
use Rattle.std.specs.IoError.{error_kind}
use Rattle.std.specs.declared.io.ErrorKind.{ErrorKind}
use Rattle.std.specs.Iterator.{Count, at_most}
use Rattle.std.specs.declared.io.Error.{Error}
use Rattle.literal_base.specs.Counts.{Counts}
use Rattle.literal_base.specs.Leftmost.{IsLeftmost}
use Rattle.literal_base.specs.MatchValue.{MatchValue}
use Rattle.literal_base.specs.Occurs.{Occurs, rest_from}
use Rattle.literal_leftmost.specs.SearchValue.{SearchValue, most_scanned}
use Rattle.literal_rows.specs.Patterns.{longest_of}
use Rattle.literal_words.specs.WholeWords.{IsFirstAlone, OccursAlone, WholeWordsValue, most_at_start}
pub use Rattle.literal_leftmost.specs.SoFar.{AnswersSoFar, IsKnownBy, IsKnownSoFar, MayBeKnown, ScansSoFar, told_to}

-- a `StreamMatches` as contracts see it: the search, the bytes ahead that were read, the bytes still to be read if they
-- are known, the offset at which the search continues, the kind of the error if reading failed, whether a read has
-- found the end of the text, whether the iteration has ended, and an upper bound on the bytes that it has looked up
pub record StreamValue : Type 0 where
  pub search : SearchValue
  pub held : List ℕ
  pub unread : Option (List ℕ)
  pub offset : ℕ
  pub failure : Option ErrorKind
  pub is_whole : Bool
  pub is_over : Bool
  pub look_ups : ℕ

-- the answer is the leftmost match of a text from an offset on
abbrev pub IsLeftmostFrom : SearchValue → List ℕ → ℕ → Option MatchValue → Type 0
IsLeftmostFrom search text from = IsLeftmost search.query search.ignore_case text (rest_from text from)

-- a pattern occurs in a text, from an offset on
abbrev pub OccursFrom : SearchValue → List ℕ → ℕ → ℕ → ℕ → Type 0
OccursFrom search text from = Occurs search.query.patterns search.ignore_case text (rest_from text from)

-- the bytes that are still to be read, if they are known
abbrev pub known : Option (List ℕ) → List ℕ
known None = []
known (Some bytes) = bytes

-- a piece of the unread bytes is read, or nothing once reading has failed
pub record ReadsOn (unread : Option (List ℕ)) (failure : Option ErrorKind) (piece : List ℕ)
    (left : Option (List ℕ)) (failed_now : Option ErrorKind) : Type 0 where
  pub consumed : Consumes unread left piece
  pub failed : IfSome failure (λ kind. (piece ≡ []) × (failed_now ≡ Some kind))

-- `ReadsOn` from one state of a stream to another
abbrev pub ReadsPiece : StreamValue → List ℕ → StreamValue → Type 0
ReadsPiece old piece new = ReadsOn old.unread old.failure piece new.unread new.failure

-- after a read has found the end of the text, nothing is read, and no known bytes are left
pub record KnowsEnd (old : StreamValue) (piece : List ℕ) (new : StreamValue) : Type 0 where
  pub stays : old.is_whole ≡ true → (piece ≡ []) × (new.is_whole ≡ true)
  pub end : new.is_whole ≡ true → IsAtEnd new.unread

-- What a stream is searched for: the leftmost answer in a text from an offset on, and what begins there. The bytes of a
-- match decide whether it counts, and so many bytes on each side. The bytes ahead begin so many bytes before the offset
-- at which the search continues, or at the start of the text.
module _ (IsFirst : List ℕ → ℕ → Option MatchValue → Type 0) (Begins : List ℕ → ℕ → ℕ → ℕ → Type 0) (margin : ℕ) where
  -- the answer is the leftmost one in the bytes ahead, by its offsets in the text, whatever came before
  abbrev pub IsFirstAhead : ℕ → Option MatchValue → List ℕ → Type 0
  IsFirstAhead offset answer ahead = (before : List ℕ) → length before ≡ offset - margin
      → IsFirst (before ++ ahead) offset answer

  -- whatever came before, nothing begins in the bytes ahead between two offsets
  abbrev pub PassesOver : ℕ → ℕ → List ℕ → Type 0
  PassesOver from to ahead = (before : List ℕ) → length before ≡ from - margin → (i p : ℕ)
      → Begins (before ++ ahead) from i p → to ≤ p

  -- the answer is the leftmost match in the bytes that were read and whatever follows them, which is nothing if the
  -- text has ended. The search continues at its end
  pub record GoesBehind (old : StreamValue) (found : MatchValue) (new : StreamValue) : Type 0 where
    pub piece : List ℕ
    pub reads : ReadsPiece old piece new
    pub knows : KnowsEnd old piece new
    pub leftmost : (more : List ℕ) → (new.is_whole ≡ true → more ≡ [])
        → IsFirstAhead old.offset (Some found) ((old.held ++ piece) ++ more)
    pub some : old.offset < found.end
    pub within : found.end ≤ (old.offset - margin) + length (old.held ++ piece)
    pub fits : found.end < 2 ^ 64
    pub goes_on : new ≡ record old {
      held = drop ((found.end - margin) - (old.offset - margin)) (old.held ++ piece);
      unread = new.unread;
      offset = found.end;
      failure = new.failure;
      is_whole = new.is_whole;
      look_ups = new.look_ups;
    }

  -- the search has ended, past all bytes that were read
  abbrev pub stream_over : StreamValue → List ℕ → StreamValue → StreamValue
  stream_over old piece new = record old {
    held = [];
    unread = new.unread;
    offset = (old.offset - margin) + length (old.held ++ piece);
    failure = new.failure;
    is_whole = new.is_whole;
    is_over = true;
    look_ups = new.look_ups;
  }

  -- the text has ended, no reading failed, and there is nothing in the bytes ahead
  pub record EndsWhole (old new : StreamValue) : Type 0 where
    pub piece : List ℕ
    pub reads : ReadsPiece old piece new
    pub knows : KnowsEnd old piece new
    pub is_whole : new.is_whole ≡ true
    pub end : IsAtEnd new.unread
    pub no_failure : new.failure ≡ None
    pub nothing : IsFirstAhead old.offset None (old.held ++ piece)
    pub over : new ≡ stream_over old piece new

  -- reading failed with the error, and no match is known from the bytes read. Whatever follows, none begins before the
  -- last bytes, one fewer than decide about the longest pattern
  pub record EndsFailed (old : StreamValue) (error : Error) (new : StreamValue) : Type 0 where
    pub piece : List ℕ
    pub reads : ReadsPiece old piece new
    pub knows : KnowsEnd old piece new
    pub failure : new.failure ≡ Some (error_kind error)
    pub nothing : (more : List ℕ) → PassesOver old.offset
        (new.offset - (longest_of old.search.query.patterns + margin - 1)) ((old.held ++ piece) ++ more)
    pub over : new ≡ stream_over old piece new

  -- the answer of `next`: the leftmost match in the bytes ahead, None if there is none, or the error with which reading
  -- failed. After None or an error it has ended, always gives None, and is unchanged
  abbrev pub GivesAhead : StreamValue → Option (Result MatchValue Error) → StreamValue → Type 0
  GivesAhead old None new = (old.is_over ≡ true → new ≡ old) × (old.is_over ≡ false → EndsWhole old new)
  GivesAhead old (Some answer) new = (old.is_over ≡ false) × (old.offset < 2 ^ 64)
      × MatchResult answer (λ found. GoesBehind old found new) (λ error. EndsFailed old error new)

-- the answer of the `next` of a `StreamMatches`, by the leftmost match
abbrev pub GivesStreamed : StreamValue → Option (Result MatchValue Error) → StreamValue → Type 0
GivesStreamed old = GivesAhead (IsLeftmostFrom old.search) (OccursFrom old.search) 0 old

-- an upper bound on the answers to come: each match has at least one byte, and an error is the last answer
abbrev pub most_streamed : StreamValue → Count
most_streamed m = at_most (if m.is_over then 0 else 2 ^ 64 - m.offset)

-- how many bytes of the text were read, if a search continues at an offset and the bytes ahead begin so many bytes
-- before it
abbrev pub bytes_read : ℕ → ℕ → List ℕ → ℕ
bytes_read margin offset held = max offset ((offset - margin) + length held)

-- at most as many bytes are scanned as an upper bound grows
pub record ScansMore (before after : ℕ) (old new : Counts) : Type 0 where
  pub others : new ≡ record old { scanned = new.scanned }
  pub most : new.scanned + before ≤ old.scanned + after

-- the bytes that a call of a stream scans: at most as many as its bound grows. With the most that may be looked up once
-- in so many bytes, the bound is at most twice that of all bytes that were read
pub record ScansStreamedBy (most : ℕ → ℕ) (margin : ℕ) (old new : StreamValue) (counts counts_new : Counts)
    : Type 0 where
  pub scans : ScansMore old.look_ups new.look_ups counts counts_new
  pub few : old.is_over ≡ false → new.look_ups ≤ 2 * most (bytes_read margin new.offset new.held)

-- the bytes that a call of a `StreamMatches` scans: in all at most twice those of a list of the bytes that were read
abbrev pub ScansStreamed : StreamValue → StreamValue → Counts → Counts → Type 0
ScansStreamed old = ScansStreamedBy (most_scanned (longest_of old.search.query.patterns)) 0 old

-- a step of an iteration that counts: the answer of `next`, and the bytes that it scans
pub record GivesStreamedCounted (old : StreamValue × Counts) (answer : Option (Result MatchValue Error))
    (new : StreamValue × Counts) : Type 0 where
  pub gives : GivesStreamed old.0 answer new.0
  pub scans : ScansStreamed old.0 new.0 old.1 new.1

-- a search that has not begun, in what a reader gives, if that is known
abbrev pub stream_of : SearchValue → Option (List ℕ) → StreamValue
stream_of search unread =
    record {
      search = search;
      held = [];
      unread = unread;
      offset = 0;
      failure = None;
      is_whole = false;
      is_over = false;
      look_ups = 0;
    }

-- the answer is the leftmost whole word of a text from an offset on
abbrev pub IsFirstWordFrom : WholeWordsValue → List ℕ → ℕ → Option MatchValue → Type 0
IsFirstWordFrom words text from = IsFirstAlone words text (rest_from text from)

-- a pattern occurs in a text as a whole word, from an offset on
abbrev pub OccursAloneFrom : WholeWordsValue → List ℕ → ℕ → ℕ → ℕ → Type 0
OccursAloneFrom words text from =
    OccursAlone words.search.query.patterns words.search.ignore_case words.word_bytes text (rest_from text from)

-- a `WholeWordStreamMatches` as contracts see it: the stream, and which bytes are word bytes. The bytes ahead begin one
-- byte before the offset at which the search continues, or at the start of the text
pub record WordStreamValue : Type 0 where
  pub stream : StreamValue
  pub word_bytes : List Bool

-- the search for whole words
abbrev pub words_in : WordStreamValue → WholeWordsValue
words_in m = record { search = m.stream.search; word_bytes = m.word_bytes }

-- the answer of the `next` of a `WholeWordStreamMatches`, by the leftmost whole word
pub record GivesWordStreamed (old : WordStreamValue) (answer : Option (Result MatchValue Error)) (new : WordStreamValue)
    : Type 0 where
  pub gives : GivesAhead (IsFirstWordFrom (words_in old)) (OccursAloneFrom (words_in old)) 1 old.stream answer
      new.stream
  pub same : new.word_bytes ≡ old.word_bytes

-- the most bytes that a list of whole words looks up in so many bytes: those of a list, plus `most_at_start` for each
-- byte
unfoldable pub most_words_scanned : ℕ → ℕ → ℕ
most_words_scanned longest bytes = most_scanned longest bytes + bytes * most_at_start longest

-- the bytes that a call of a `WholeWordStreamMatches` scans: in all at most twice those of a list of whole words
abbrev pub ScansWordsStreamed : WordStreamValue → WordStreamValue → Counts → Counts → Type 0
ScansWordsStreamed old new =
    ScansStreamedBy (most_words_scanned (longest_of old.stream.search.query.patterns)) 1 old.stream new.stream

-- `most_streamed` of a `WholeWordStreamMatches`
abbrev pub most_words_streamed : WordStreamValue → Count
most_words_streamed m = most_streamed m.stream

-- a search for whole words that has not begun, in what a reader gives, if that is known
abbrev pub word_stream_of : WholeWordsValue → Option (List ℕ) → WordStreamValue
word_stream_of words unread =
    record { stream = stream_of words.search unread; word_bytes = words.word_bytes }
