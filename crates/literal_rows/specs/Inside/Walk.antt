-- What a walk through the rows of an automaton finds.
use Rattle.std.specs.Prelude.{◌≡◌, ℕ, ◌+◌, ◌*◌, ◌-◌, ◌<◌, ◌≤◌, ◌^◌, List, [], ◌++◌}
use Rattle.std.specs.Prelude.{⊤, IsSome, None, Result, length, slice_range}
use Rattle.std.specs.Result.{IsOkAnd}
use Rattle.literal_base.specs.declared.search.Span.{Span}
use Rattle.literal_base.specs.Occurs.{between}
use Rattle.literal_rows.specs.Inside.Classes.{symbols_in}
use Rattle.literal_rows.specs.Inside.Packed.{unpacked}
use Rattle.literal_rows.specs.Inside.Rows.{rows_of}
use Rattle.literal_rows.specs.Table.{Recognises, stride_of}
use Rattle.literal_rows.specs.Words.{ending, live_suffix, word_of}
use Rattle.literal_rows.specs.declared.damaged.Damaged.{Damaged}
use Rattle.literal_rows.specs.declared.walk.Reached.{Reached}
use Rattle.literal_rows.specs.declared.walk.Reached.TheVariants.{Back, Ends, Nowhere}
use Rattle.literal_rows.specs.declared.walk.WalkEnd.{WalkEnd}
use Rattle.literal_rows.specs.declared.walk.Table.{Table}

-- the row of a state begins at this index
pub record IsRow (width : ℕ) (rows : List ℕ) (row : ℕ) : Type 0 where
  pub state : ℕ
  pub row_is : row ≡ state * stride_of width
  pub fits : row + stride_of width ≤ length rows

-- the classes of the bytes of a span
abbrev pub text_of : List ℕ → List ℕ → Span → List ℕ
text_of classes haystack span = symbols_in classes (slice_range haystack span.start span.end)

-- a walk that read a text is in the state of its live suffix
pub record IsAt (patterns : List (List ℕ)) (width : ℕ) (rows : List ℕ) (recognises : Recognises patterns width rows)
    (text : List ℕ) (row : ℕ) : Type 0 where
  pub state : ℕ
  pub is_state : state < length recognises.words
  pub row_is : row ≡ state * stride_of width
  pub live_suffix : live_suffix patterns text ≡ word_of recognises.words state

-- a text, followed by the classes of the haystack's bytes between two offsets
abbrev pub read_to : List ℕ → List ℕ → List ℕ → ℕ → ℕ → List ℕ
read_to text classes haystack start end = text ++ text_of classes haystack (between start end)

-- no pattern ends with this text, up to an offset
abbrev pub NoneEnds : List (List ℕ) → List ℕ → List ℕ → List ℕ → ℕ → ℕ → Type 0
NoneEnds patterns text classes haystack start upto =
    (end : ℕ) → start < end → end ≤ upto → ending patterns (read_to text classes haystack start end) ≡ None

-- the first offset at which a pattern ends, and the row of the state there
pub record IsFirstEnd (patterns : List (List ℕ)) (width : ℕ) (rows : List ℕ)
    (recognises : Recognises patterns width rows) (text classes haystack : List ℕ) (start : ℕ) (stop : WalkEnd)
    : Type 0 where
  pub none : NoneEnds patterns text classes haystack start (stop.end - 1)
  pub ends : IsSome (ending patterns (read_to text classes haystack start stop.end))
  pub at : IsAt patterns width rows recognises (read_to text classes haystack start stop.end) stop.row

-- the result of a walk that reads a span: the first end of a pattern, an offset where it is back in the start state, or
-- the end of the span. No pattern has ended before
abbrev pub HasReached : (patterns : List (List ℕ)) (width : ℕ) (rows : List ℕ) → Recognises patterns width rows
    → List ℕ → List ℕ → List ℕ → Span → Reached → Type 0
HasReached patterns width rows recognises text classes haystack span (Ends stop) =
    IsFirstEnd patterns width rows recognises text classes haystack span.start stop
HasReached patterns width rows recognises text classes haystack span (Back at) =
    IsAt patterns width rows recognises (read_to text classes haystack span.start at) 0
    × NoneEnds patterns text classes haystack span.start at
HasReached patterns width rows recognises text classes haystack span Nowhere =
    NoneEnds patterns text classes haystack span.start span.end

-- the same for all patterns that the rows recognise, from all texts whose state has the row in which the walk began
abbrev pub Reaches : ℕ → List ℕ → ℕ → List ℕ → List ℕ → Span → Result Reached Damaged → Type 0
Reaches width rows from classes haystack span result =
    (patterns : List (List ℕ)) (recognises : Recognises patterns width rows) (text : List ℕ)
    → IsAt patterns width rows recognises text from
    → IsOkAnd result (HasReached patterns width rows recognises text classes haystack span)

-- a walk that was in one row is in another, and no pattern has ended since, for all patterns that the rows recognise,
-- from all texts whose state has the first of these rows
abbrev pub WalksOn : ℕ → List ℕ → ℕ → List ℕ → List ℕ → ℕ → ℕ → ℕ → Type 0
WalksOn width rows from classes haystack start at row =
    (patterns : List (List ℕ)) (recognises : Recognises patterns width rows) (text : List ℕ)
    → IsAt patterns width rows recognises text from
    → IsAt patterns width rows recognises (read_to text classes haystack start at) row
    × NoneEnds patterns text classes haystack start at

-- the rows of a table, without the classes after them
abbrev pub rows_by : Table → List ℕ
rows_by t = rows_of t.rows.now

-- the class of each byte
abbrev pub classes_by : Table → List ℕ
classes_by t = unpacked t.classes.now

-- no pattern ends between two offsets, for all patterns that the rows recognise
abbrev pub NoneEndsIn : Table → List ℕ → ℕ → ℕ → Type 0
NoneEndsIn t haystack start end =
    (patterns : List (List ℕ)) → Recognises patterns t.width (rows_by t)
    → NoneEnds patterns [] (classes_by t) haystack start end

-- nor in any of four spans of the same length that begin one block apart
abbrev pub NoneInFour : Table → List ℕ → ℕ → ℕ → ℕ → Type 0
NoneInFour t haystack at block len =
    (k : ℕ) → k < 4 → NoneEndsIn t haystack (at + k * block) (at + k * block + len)

-- how far a walk has read, whatever the numbers are: up to its result
abbrev pub ReadsTo : Span → ℕ → Reached → Type 0
ReadsTo span steps (Ends stop) = span.start + steps ≡ stop.end
ReadsTo span steps (Back at) = span.start + steps ≡ at
ReadsTo span steps Nowhere = span.start + steps ≡ span.end

-- the result lies in the span, and an offset where the walk is back in the start state is after the least offset
abbrev pub ReachesWithin : Span → ℕ → Reached → Type 0
ReachesWithin span least (Ends stop) = (span.start < stop.end) × (stop.end ≤ span.end) × (stop.row < 2 ^ 32)
ReachesWithin span least (Back at) = (span.start < at) × (at ≤ span.end) × (least < at)
ReachesWithin span least Nowhere = ⊤
