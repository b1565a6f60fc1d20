-- The state of an iteration between two matches.
use Rattle.std.specs.Prelude.{⊤, ◌≡◌, ℕ, ◌+◌, ◌-◌, ◌*◌, ◌≤◌, IfOk, IfSome, List, None, Option, Result}
use Rattle.std.specs.Result.{IsOkAnd}
use Rattle.literal_base.specs.Counts.{Counts}
use Rattle.literal_base.specs.Leftmost.{IsLeftmost}
use Rattle.literal_base.specs.MatchValue.{MatchValue}
use Rattle.literal_base.specs.Occurs.{between}
use Rattle.literal_base.specs.declared.search.Span.{Span}
use Rattle.literal_leftmost.specs.Inside.Backward.{AreMarked, ForBackward, IsMatchBy, IsPlaced, offset_by, room_for}
use Rattle.literal_leftmost.specs.Inside.Trail.{AreTrailed, IsFar, led_to, paid_by}
use Rattle.literal_leftmost.specs.LookUps.{LookUps, LooksOn, ScansNext}
use Rattle.literal_leftmost.specs.MatchesValue.{MatchesValue}
use Rattle.literal_leftmost.specs.Prepared.{BackTables}
use Rattle.literal_leftmost.specs.SearchValue.{SearchValue, looked_by}
use Rattle.literal_leftmost.specs.declared.backward.Backward.{Backward}
use Rattle.literal_leftmost.specs.declared.backward.Continuation.{Continuation}
use Rattle.literal_leftmost.specs.declared.backward.Marks.{Marks}
use Rattle.literal_leftmost.specs.declared.backward.TheConstants.{LEAST}
use Rattle.literal_leftmost.specs.declared.cursor.Cursor.{Cursor}
use Rattle.literal_leftmost.specs.declared.trail.Trail.{Trail}
use Rattle.literal_leftmost.specs.declared.cursor.Room.{Room}
use Rattle.literal_leftmost.specs.declared.short_span.ShortCursor.{ShortCursor}
use Rattle.literal_leftmost.specs.declared.cursor.Room.TheVariants.{Block, Trailed}
use Rattle.literal_rows.specs.declared.damaged.Damaged.{Damaged}

-- marks that are in a list of some length, which has room for those of a block
pub record HasRoom (longest : ℕ) (span : Span) (at : ℕ) (m : Marks) (len : ℕ) : Type 0 where
  pub placed : IsPlaced longest span at m
  pub room : room_for longest span ≤ len

-- an iteration continues at `at`, with marks in such a room
abbrev pub IsIn : ℕ → Span → ℕ → Marks → Room → Type 0
IsIn longest span at m (Block numbers) = HasRoom longest span at m LEAST
IsIn longest span at m (Trailed trail) = IsFar longest span at trail m

-- the room is large enough for marks in a span
abbrev pub FitsIn : ℕ → Span → Room → Type 0
FitsIn longest span (Block numbers) = room_for longest span ≤ LEAST
FitsIn longest span (Trailed trail) = ⊤

-- so it is, with the marks and the room of its state
abbrev pub IsCursor : ℕ → Span → Cursor → Type 0
IsCursor longest span c = IsIn longest span c.at c.marks c.room

-- the marks say what begins where the iteration continues
abbrev pub AreKnown : BackTables → List ℕ → Span → ℕ → Marks → Room → Type 0
AreKnown p haystack span at m (Block numbers) = AreMarked p haystack span at numbers m
AreKnown p haystack span at m (Trailed trail) = AreTrailed p haystack span at trail m

-- so do the marks of its state
abbrev pub KnowsAhead : BackTables → List ℕ → Span → Cursor → Type 0
KnowsAhead p haystack span c = AreKnown p haystack span c.at c.marks c.room

-- bounds on the bytes that an iteration has looked up, by what is known
abbrev pub looked_short : ℕ → Span → Marks → LookUps
looked_short longest span m =
    record { least = looked_by longest span m.known - span.start; most = 3 * (m.known - span.start) }

-- the same by trails
abbrev pub looked_far : ℕ → Span → Trail → Marks → LookUps
looked_far longest span t m = record {
  least = led_to longest span t.block.end - span.start;
  most = paid_by longest (t.block.end - span.start) + (m.known - span.start);
}

-- the same in a room
abbrev pub looked_in : ℕ → Span → Marks → Room → LookUps
looked_in longest span m (Block numbers) = looked_short longest span m
looked_in longest span m (Trailed trail) = looked_far longest span trail m

-- the same of a state
abbrev pub look_ups_of : ℕ → Span → Cursor → LookUps
look_ups_of longest span c = looked_in longest span c.marks c.room

-- a step of an iteration, from one state to the next. By the tables of a search, its answer is the leftmost match of
-- the rest of the span; by any tables, a match lies in it and names one of the patterns
pub record StepsOn (b : Backward) (haystack : List ℕ) (span : Span) (on : Continuation) (old : Cursor)
    (answer : Result (Option MatchValue) Damaged) (new : Cursor) (counts counts_new : Counts) : Type 0 where
  pub leftmost : ForBackward b (λ tables. KnowsAhead tables haystack span old → IsOkAnd answer
      (IsLeftmost tables.search.query tables.search.ignore_case haystack (between old.at span.end)))
  pub knows : ForBackward b (λ tables. KnowsAhead tables haystack span old
      → IfOk answer (λ _. KnowsAhead tables haystack span new))
  pub lies : IfOk answer (λ found. IfSome found (IsMatchBy b span old.at))
  pub at : IfOk answer (λ found. new.at ≡ offset_by on span found)
  pub cursor : IfOk answer (λ _. IsCursor b.table.longest span new)
  pub looks : IfOk answer (λ _. LooksOn b.table.longest span new.at (look_ups_of b.table.longest span old)
      (look_ups_of b.table.longest span new))
  pub scans : IfOk answer (λ _. ScansNext (look_ups_of b.table.longest span old)
      (look_ups_of b.table.longest span new) counts counts_new)
  pub ended : old.at ≡ span.end → IsOkAnd answer (λ found. found ≡ None)

-- an iteration of a search as contracts see it, by its state
abbrev pub matches_at : SearchValue → List ℕ → Span → ℕ → Cursor → MatchesValue
matches_at search haystack span longest c = record {
  search = search;
  haystack = haystack;
  span = span;
  at = c.at;
  look_ups = look_ups_of longest span c;
}

-- the state of an iteration over a short span, as one over any span
abbrev pub cursor_by : ShortCursor → Cursor
cursor_by c = record { at = c.at; marks = c.marks; room = Block c.numbers }

-- a room for a block
abbrev pub IsBlock : Room → Type 0
IsBlock (Block numbers) = ⊤
IsBlock (Trailed trail) = ⊥

-- an iteration has not begun, and has room for a block
pub record HasNotBegun (at : ℕ) (c : Cursor) : Type 0 where
  pub at_is : c.at ≡ at
  pub marks : c.marks ≡ record { first = at; upto = at; known = at; part = 0 }
  pub block : IsBlock c.room
