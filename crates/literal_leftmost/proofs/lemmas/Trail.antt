-- The trail of a walk through a block.
use Rattle.std.proofs.Common.{IfSome, None, Option, Some, ◌≡◌, ℕ, ◌+◌, ◌*◌, ◌<◌, ◌≤◌, ◌^◌, ◌%◌, ◌-◌, List, arith}
use Rattle.std.proofs.Common.{length, min, set, subst}
use Rattle.std.proofs.lemmas.Bool.{cases_lt}
use Rattle.std.proofs.lemmas.List.{get_or-set_other, get_or-set_same}
use Rattle.literal_base.specs.declared.search.Span.{Span}
use Rattle.literal_base.specs.MatchValue.{MatchValue}
use Rattle.literal_leftmost.specs.Inside.Backward.{AreMarked, IsMatchBy, NoneFrom, offset_by}
use Rattle.literal_leftmost.specs.declared.backward.Backward.{Backward}
use Rattle.literal_leftmost.specs.declared.backward.Continuation.{Continuation}
use Rattle.literal_leftmost.specs.declared.backward.Continuation.TheVariants.{AfterStart, AtEnd}
use Rattle.literal_leftmost.specs.declared.backward.Marks.{Marks}
use Rattle.literal_leftmost.specs.Inside.Leftmost.{IsLane}
use Rattle.literal_leftmost.specs.Inside.Trail.{AreCells, AreTrailed}
use Rattle.literal_leftmost.specs.declared.trail.Trail.{Trail}
use Rattle.literal_leftmost.specs.Prepared.{BackTables}

-- one more number is written
pub cells_on : (p : BackTables) (haystack : List ℕ) (span block : Span) (cells : List ℕ) (i next cell to : ℕ)
    → next ≡ i + 1 → i < length cells → to ≡ min (block.start + 512 * next) block.end
    → IsLane p haystack span block.end to (cell % 2 ^ 31)
    → (cell < 2 ^ 31 → NoneFrom p haystack span.end (block.start + 512 * i) to)
    → AreCells p haystack span block cells (block.start + 512 * next)
    → AreCells p haystack span block (set cells i cell) (block.start + 512 * i)
cells_on p haystack span block cells i next cell to next_is inside to_is lane none are = record {
  lane = λ k upto after before upto_is. grind (arith, cases_lt, get_or-set_other, get_or-set_same);
  none = λ k upto after before upto_is small. grind (arith, cases_lt, get_or-set_other, get_or-set_same);
}

-- none begins in two parts, of which the second begins in the first or right after it
pub none_join : (p : BackTables) (haystack : List ℕ) (end from at start to : ℕ) → start ≤ at
    → NoneFrom p haystack end from at → NoneFrom p haystack end start to → NoneFrom p haystack end from to
none_join p haystack end from at start to before first second k after inside = grind (arith, cases_lt)

-- a number with the highest bit leads to the rest of it
pub lane_of_cell : (p : BackTables) (haystack : List ℕ) (span : Span) (end at cell : ℕ) → 2 ^ 31 ≤ cell
    → cell < 2 ^ 32 → IsLane p haystack span end at (cell % 2 ^ 31) → IsLane p haystack span end at (cell - 2 ^ 31)
lane_of_cell p haystack span end at cell ends fits lane =
    let same : cell % 2 ^ 31 ≡ cell - 2 ^ 31 = omega (arith, ends, fits) in
    subst (IsLane p haystack span end at) same lane

-- where the list goes on after a match, the marks are those too
pub marked_behind : (tables : BackTables) (haystack : List ℕ) (span : Span) (from : ℕ) (numbers : List ℕ) (m : Marks)
    → from ≤ span.end → AreMarked tables haystack span from numbers m → (b : Backward) (answer : Option MatchValue)
    → IfSome answer (IsMatchBy b span from) → (on : Continuation)
    → AreMarked tables haystack span (offset_by on span answer) numbers m
marked_behind tables haystack span from numbers m before marked b None lies AtEnd = grind arith
marked_behind tables haystack span from numbers m before marked b None lies AfterStart = grind arith
marked_behind tables haystack span from numbers m before marked b (Some found) lies AtEnd = grind arith
marked_behind tables haystack span from numbers m before marked b (Some found) lies AfterStart = grind arith

-- the same with the trail
pub trailed_behind : (tables : BackTables) (haystack : List ℕ) (span : Span) (from : ℕ) (t : Trail) (m : Marks)
    → from ≤ span.end → AreTrailed tables haystack span from t m → (b : Backward) (answer : Option MatchValue)
    → IfSome answer (IsMatchBy b span from) → (on : Continuation)
    → AreTrailed tables haystack span (offset_by on span answer) t m
trailed_behind tables haystack span from t m before are b answer lies on = record {
  trail = are.trail;
  marked = marked_behind tables haystack span from t.numbers m before are.marked b answer lies on;
}

-- and where the marks end
pub trailed_on : (tables : BackTables) (haystack : List ℕ) (span : Span) (from to : ℕ) (t : Trail) (m : Marks)
    → from ≤ to → AreTrailed tables haystack span from t m → AreTrailed tables haystack span to t m
trailed_on tables haystack span from to t m later are = record {
  trail = are.trail;
  marked = record {
    marks = λ k after before. are.marked.marks k (omega (arith, later, after)) before;
    none = λ k after upto before. are.marked.none k (omega (arith, later, after)) upto before;
  };
}
