-- The trail of a backward walk through a block.
use Rattle.std.specs.Prelude.{◌≡◌, ℕ, ◌+◌, ◌-◌, ◌*◌, ◌/◌, ◌<◌, ◌≤◌, ◌^◌, ◌%◌, List, false, max, min, slice_index, true}
use Rattle.literal_base.specs.declared.search.Span.{Span}
use Rattle.literal_leftmost.specs.Inside.Backward.{AreListed, AreMarked, HoldIn, NoneFrom}
use Rattle.literal_leftmost.specs.Inside.Leftmost.{IsLane, IsPart}
use Rattle.literal_leftmost.specs.Prepared.{BackTables}
use Rattle.literal_leftmost.specs.declared.backward.Marks.{Marks}
use Rattle.literal_leftmost.specs.declared.lanes.Lanes.{Lanes}
use Rattle.literal_leftmost.specs.declared.trail.TheConstants.{MOST, STEP}
use Rattle.literal_leftmost.specs.declared.trail_in_four.TheConstants.{SHORT_STEP}
use Rattle.literal_leftmost.specs.declared.trail.Trail.{Trail}

-- a list has a number for each step of a block that begins at an offset or after it: the row of a walk at the end of
-- the step, with the highest bit set unless no pattern begins in the step. The block's last step may be shorter
pub record AreCells (p : BackTables) (haystack : List ℕ) (span block : Span) (cells : List ℕ) (from : ℕ) : Type 0 where
  pub lane : (i to : ℕ) → from ≤ block.start + STEP * i → block.start + STEP * i < block.end
      → to ≡ min (block.start + STEP * i + STEP) block.end
      → IsLane p haystack span block.end to (slice_index cells i % 2 ^ 31)
  pub none : (i to : ℕ) → from ≤ block.start + STEP * i → block.start + STEP * i < block.end
      → to ≡ min (block.start + STEP * i + STEP) block.end
      → slice_index cells i < 2 ^ 31 → NoneFrom p haystack span.end (block.start + STEP * i) to

-- a number of a trail for a short step after an offset: the row of a walk at the step's end, with the highest bit set
-- unless no pattern begins in the step
pub record IsShortCell (p : BackTables) (haystack : List ℕ) (span : Span) (start i cell : ℕ) : Type 0 where
  pub lane : IsLane p haystack span (start + SHORT_STEP * i + SHORT_STEP) (start + SHORT_STEP * i + SHORT_STEP)
      (cell % 2 ^ 31)
  pub none : cell < 2 ^ 31
      → NoneFrom p haystack span.end (start + SHORT_STEP * i) (start + SHORT_STEP * i + SHORT_STEP)

-- a list has such a number for each of so many short steps
abbrev pub AreShortCells : BackTables → List ℕ → Span → ℕ → List ℕ → ℕ → Type 0
AreShortCells p haystack span start cells steps = HoldIn (IsShortCell p haystack span start) cells 0 0 steps

-- four walks have read numbers between two offsets of each of four adjacent parts, here joined bit by bit. Below 2^31,
-- no pattern begins there
pub record HaveCrossed (p : BackTables) (haystack : List ℕ) (end at part from upto : ℕ) (read : Lanes) : Type 0 where
  pub first : read.first < 2 ^ 31 → NoneFrom p haystack end (at + from) (at + upto)
  pub second : read.second < 2 ^ 31 → NoneFrom p haystack end (at + part + from) (at + part + upto)
  pub third : read.third < 2 ^ 31 → NoneFrom p haystack end (at + 2 * part + from) (at + 2 * part + upto)
  pub fourth : read.fourth < 2 ^ 31 → NoneFrom p haystack end (at + 3 * part + from) (at + 3 * part + upto)

-- the numbers of a trail
pub record IsTrail (p : BackTables) (haystack : List ℕ) (span : Span) (t : Trail) : Type 0 where
  pub long : t.in_four ≡ false → AreCells p haystack span t.block t.cells t.block.start
  pub short : t.in_four ≡ true
      → AreShortCells p haystack span t.block.start t.cells ((t.block.end - t.block.start) / SHORT_STEP)

-- a trail has cells for its block. Four short steps after another make up the block
pub record HasCells (t : Trail) : Type 0 where
  pub few : t.block.end ≤ t.block.start + MOST
  pub short : t.in_four ≡ true → t.block.end ≤ t.block.start + SHORT_STEP * STEP
  pub whole : t.in_four ≡ true → (t.block.end - t.block.start) % STEP ≡ 0

-- where the step of a block begins that an offset is in
abbrev pub step_at : Span → ℕ → ℕ
step_at block at = block.start + STEP * ((at - block.start) / STEP)

-- an offset is the end of a step of a block, or lies not in the block
abbrev pub EndsStep : Span → ℕ → Type 0
EndsStep block at = at < block.end → (at - block.start) % STEP ≡ 0

-- a step of a block is marked, or no pattern begins in the rest of the block from an offset on
pub record IsStepMarked (block : Span) (from : ℕ) (m : Marks) : Type 0 where
  pub upto : m.first ≤ m.upto
  pub listed : m.upto ≤ m.first + STEP
  pub known : m.known ≡ m.upto
  pub some : from < m.known
  pub inside : m.known ≤ block.end
  pub whole : EndsStep block m.known

-- the most bytes that are looked up to leave trails in blocks of so many bytes
unfoldable pub paid_by : ℕ → ℕ → ℕ
paid_by longest bytes = (2 + longest / 262000) * bytes

-- the offset up to which the bytes of a span are looked up once all blocks before `end` have trails: one byte less than
-- the longest pattern has after the last block, but not past the span's end. (Each length is less than 2 ^ 64)
abbrev pub led_to : ℕ → Span → ℕ → ℕ
led_to longest span end = min (end + min (2 ^ 64 * (end - span.start)) (longest - 1)) span.end

-- a list continues at `at`, in the block of a trail or after it, with marks for a step of the block
pub record IsFar (longest : ℕ) (span : Span) (at : ℕ) (t : Trail) (m : Marks) : Type 0 where
  pub part : IsPart span t.block
  pub cells : HasCells t
  pub whole : EndsStep t.block m.known
  pub begun : t.block.start ≤ max at m.known
  pub marks : AreListed span at STEP m
  pub known_after : span.start ≤ m.known
  pub known : m.known ≤ t.block.end
  pub looked : at ≤ led_to longest span t.block.end

-- the trail, and the marks where the list continues
pub record AreTrailed (p : BackTables) (haystack : List ℕ) (span : Span) (at : ℕ) (t : Trail) (m : Marks)
    : Type 0 where
  pub trail : IsTrail p haystack span t
  pub marked : AreMarked p haystack span at t.numbers m
