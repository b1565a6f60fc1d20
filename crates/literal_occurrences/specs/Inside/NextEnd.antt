-- A walk from one end of an occurrence to the next.
use Rattle.std.specs.Prelude.{ℕ, ◌+◌, ◌*◌, ◌<◌, ◌≤◌, Bool, List, MatchOption, None, Option, Result, Some, length, map}
use Rattle.std.specs.Prelude.{IsSome}
use Rattle.std.specs.Result.{IsOkAnd}
use Rattle.literal_base.specs.Occurs.{Occurs, between, pattern_at}
use Rattle.literal_base.specs.declared.search.Span.{Span}
use Rattle.literal_leftmost.specs.Prepared.{ArePrints}
use Rattle.literal_rows.specs.Inside.Classes.{symbols_in}
use Rattle.literal_occurrences.specs.Inside.Scan.{IsTableFor}
use Rattle.literal_rows.specs.Inside.Walk.{IsAt, classes_by, rows_by, text_of}
use Rattle.literal_rows.specs.Table.{Recognises}
use Rattle.literal_rows.specs.Words.{ending}
use Rattle.literal_rows.specs.declared.damaged.Damaged.{Damaged}
use Rattle.literal_rows.specs.declared.walk.WalkEnd.{WalkEnd}
use Rattle.literal_rows.specs.declared.walk.Table.{Table}

-- a walk in a span is in the state for what it read since `from`. Each occurrence in the span that ends after `behind`
-- begins at `from` or later
pub record IsWalkAt (patterns : List (List ℕ)) (ignore_case : Bool) (classes : List ℕ) (width : ℕ)
    (rows haystack : List ℕ) (span : Span) (behind : ℕ) (stop : WalkEnd) : Type 0 where
  pub from : ℕ
  pub after : span.start ≤ from
  pub before : from ≤ stop.end
  pub at : (recognises : Recognises (map (symbols_in classes) patterns) width rows)
      → IsAt (map (symbols_in classes) patterns) width rows recognises
      (text_of classes haystack (between from stop.end)) stop.row
  pub begins : (i offset : ℕ) → Occurs patterns ignore_case haystack span i offset
      → behind < offset + length (pattern_at patterns i) → from ≤ offset

-- a walk is at the end of an occurrence, and none ends before it and after `behind`
pub record IsWalkAtEnd (patterns : List (List ℕ)) (ignore_case : Bool) (classes : List ℕ) (width : ℕ)
    (rows haystack : List ℕ) (span : Span) (behind : ℕ) (stop : WalkEnd) : Type 0 where
  pub stands : IsWalkAt patterns ignore_case classes width rows haystack span behind stop
  pub ends : IsSome (ending (map (symbols_in classes) patterns)
      (text_of classes haystack (between stands.from stop.end)))
  pub first : (i offset : ℕ) → Occurs patterns ignore_case haystack span i offset
      → behind < offset + length (pattern_at patterns i) → stop.end ≤ offset + length (pattern_at patterns i)

-- the next end of an occurrence in the span after `behind`, or None if there is none
abbrev pub IsNextWalkEnd : List (List ℕ) → Bool → List ℕ → ℕ → List ℕ → List ℕ → Span → ℕ → Option WalkEnd → Type 0
IsNextWalkEnd patterns ignore_case classes width rows haystack span behind answer =
    MatchOption answer ((i offset : ℕ) → Occurs patterns ignore_case haystack span i offset
    → offset + length (pattern_at patterns i) ≤ behind)
    (IsWalkAtEnd patterns ignore_case classes width rows haystack span behind)

-- a walk that is in a row at the start of a span finds the next end of an occurrence: in each span that begins earlier
-- and has the same end, for all patterns of which these are the numbers
abbrev pub FindsNext : Table → List ℕ → List ℕ → ℕ → Span → Result (Option WalkEnd) Damaged → Type 0
FindsNext t prints haystack from span result =
    (patterns : List (List ℕ)) (ignore_case : Bool) → IsTableFor t patterns ignore_case
    → ArePrints patterns ignore_case prints → (start : ℕ)
    → IsWalkAt patterns ignore_case (classes_by t) t.width (rows_by t) haystack (between start span.end) span.start
    (record { row = from; end = span.start })
    → IsOkAnd result (IsNextWalkEnd patterns ignore_case (classes_by t) t.width (rows_by t) haystack
    (between start span.end) span.start)

-- the steps that it takes: at least the bytes up to the end that it finds, or those of the span, and at most three
-- times as many
abbrev pub StepsToWalkEnd : Span → ℕ → Option WalkEnd → Type 0
StepsToWalkEnd span steps None = (span.end ≤ span.start + steps) × (3 * span.start + steps ≤ 3 * span.end)
StepsToWalkEnd span steps (Some stop) = (stop.end ≤ span.start + steps) × (3 * span.start + steps ≤ 3 * stop.end)

-- a walk that was in a row at the start of a span is in another row later, and no occurrence has ended since, in the
-- same spans, for the same patterns
abbrev pub HasComeTo : Table → List ℕ → List ℕ → ℕ → Span → WalkEnd → Type 0
HasComeTo t prints haystack from span stop =
    (patterns : List (List ℕ)) (ignore_case : Bool) → IsTableFor t patterns ignore_case
    → ArePrints patterns ignore_case prints → (start : ℕ)
    → IsWalkAt patterns ignore_case (classes_by t) t.width (rows_by t) haystack (between start span.end) span.start
    (record { row = from; end = span.start })
    → IsWalkAt patterns ignore_case (classes_by t) t.width (rows_by t) haystack (between start span.end) stop.end stop
    × ((i offset : ℕ) → Occurs patterns ignore_case haystack (between start span.end) i offset
    → span.start < offset + length (pattern_at patterns i) → stop.end < offset + length (pattern_at patterns i))
