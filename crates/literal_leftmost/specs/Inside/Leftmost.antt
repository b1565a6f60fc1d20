-- The leftmost match of a span, by backward walks.
use Rattle.std.specs.Prelude.{◌≡◌, ◌⊎◌, ℕ, ◌+◌, ◌*◌, ◌<◌, ◌≤◌, ◌^◌, ◌%◌, List, None, Option, Some, length, min}
use Rattle.std.specs.Prelude.{◌-◌, ◌==◌, IfSome, if◌then◌else◌}
use Rattle.literal_base.specs.Counts.{Counts}
use Rattle.literal_base.specs.Occurs.{between}
use Rattle.literal_base.specs.declared.search.Span.{Span}
use Rattle.literal_fingerprints.specs.CandidateScans.{IsScanFor, ahead_of}
use Rattle.literal_fingerprints.specs.declared.candidates.CandidateScan.{CandidateScan}
use Rattle.literal_leftmost.specs.SearchValue.{first_part}
use Rattle.literal_leftmost.specs.Inside.Backward.{ForBackward, HasReadBack, HoldIn, IsMark, NoneFrom}
use Rattle.literal_rows.specs.Inside.Walk.{classes_by, rows_by}
use Rattle.literal_leftmost.specs.Prepared.{BackTables, past_skipped}
use Rattle.literal_leftmost.specs.declared.backward.Backward.{Backward}
use Rattle.literal_leftmost.specs.declared.backward.PatternStart.{PatternStart}
use Rattle.literal_leftmost.specs.declared.lanes.Block.{Block}
use Rattle.literal_leftmost.specs.declared.lanes.Lanes.{Lanes}
use Rattle.literal_leftmost.specs.declared.in_four.LaneStates.{LaneStates}
use Rattle.literal_leftmost.specs.declared.lanes.Passed.{Passed}
use Rattle.literal_leftmost.specs.declared.leftmost.Progress.{Progress}
use Rattle.literal_leftmost.specs.declared.leftmost.TheConstants.{FIRST}
use Rattle.literal_leftmost.specs.declared.lanes.TheConstants.{OVERLAP}

-- a part of a span, which may be empty
pub record IsPart (span part : Span) : Type 0 where
  pub after : span.start ≤ part.start
  pub ordered : part.start ≤ part.end
  pub inside : part.end ≤ span.end

-- the first offset of a part at which a pattern begins, and its mark, or None if there is none
abbrev pub IsFirstStart : BackTables → List ℕ → ℕ → Span → Option PatternStart → Type 0
IsFirstStart p haystack end part None = NoneFrom p haystack end part.start part.end
IsFirstStart p haystack end part (Some begun) =
    IsMark p haystack end begun.at begun.code × NoneFrom p haystack end part.start begun.at

-- such an offset lies in the part
abbrev pub LiesInPart : ℕ → ℕ → Option PatternStart → Type 0
LiesInPart start end first = IfSome first (λ begun. (start ≤ begun.at) × (begun.at < end) × (2 ^ 31 ≤ begun.code))

-- a backward walk is at an offset. It began far enough after an end to find all that begins before the end
pub record IsLane (p : BackTables) (haystack : List ℕ) (span : Span) (end at row : ℕ) : Type 0 where
  pub from : ℕ
  pub after : at ≤ from
  pub inside : from ≤ span.end
  pub far : (from ≡ span.end) ⊎ (end + p.longest ≤ from + 1)
  pub stands : HasReadBack p haystack from at row

-- a walk read a number for the byte at an offset and continues from there. Before the end, the number is its mark
pub record IsStep (p : BackTables) (haystack : List ℕ) (span : Span) (end at code : ℕ) : Type 0 where
  pub lane : IsLane p haystack span end at (code % 2 ^ 31)
  pub mark : at < end → IsMark p haystack span.end at code

-- the indices of rows are below this limit, and after each there is a number for any class
pub record IsLimit (b : Backward) (limit : ℕ) : Type 0 where
  pub some : 0 < limit
  pub is : limit ≡ min (length (rows_by b.table)) (2 ^ 31)
  pub fits : limit + 256 ≤ length b.table.rows.now

-- these are the classes of the bytes
abbrev pub HasBytes : Backward → List ℕ → Type 0
HasBytes b classes = classes ≡ classes_by b.table

-- the rows of four walks have indices below a limit
pub record HaveRows (limit : ℕ) (l : Lanes) : Type 0 where
  pub first : l.first < limit
  pub second : l.second < limit
  pub third : l.third < limit
  pub fourth : l.fourth < limit

-- four walks belong to four adjacent parts, each with `left` bytes of its part before it
pub record AreLanes (p : BackTables) (haystack : List ℕ) (span : Span) (at part left : ℕ) (l : Lanes) : Type 0 where
  pub first : IsLane p haystack span (at + part) (at + left) l.first
  pub second : IsLane p haystack span (at + 2 * part) (at + part + left) l.second
  pub third : IsLane p haystack span (at + 3 * part) (at + 2 * part + left) l.third
  pub fourth : IsLane p haystack span (at + 4 * part) (at + 3 * part + left) l.fourth

-- four walks are at the ends of the parts of a block. If they began at the end of the span, the first offset after the
-- parts at which a pattern begins is known
pub record AreLaneStates (p : BackTables) (haystack : List ℕ) (span : Span) (at : ℕ) (b : Block)
    (led : LaneStates) : Type 0 where
  pub lanes : AreLanes p haystack span at b.part b.part led.lanes
  pub behind : at + 4 * b.part + b.lead ≡ span.end
      → IsFirstStart p haystack span.end (between (at + 4 * b.part) span.end) led.behind

-- nothing begins in four adjacent parts after the first `left` bytes of each
pub record NoneAfter (p : BackTables) (haystack : List ℕ) (end at part left : ℕ) : Type 0 where
  pub first : NoneFrom p haystack end (at + left) (at + part)
  pub second : NoneFrom p haystack end (at + part + left) (at + 2 * part)
  pub third : NoneFrom p haystack end (at + 2 * part + left) (at + 3 * part)
  pub fourth : NoneFrom p haystack end (at + 3 * part + left) (at + 4 * part)

-- four walks have each read the number for the byte after the first `left` bytes of its part
pub record AreSteps (p : BackTables) (haystack : List ℕ) (span : Span) (at part left : ℕ) (codes : Lanes) : Type 0 where
  pub first : IsStep p haystack span (at + part) (at + left) codes.first
  pub second : IsStep p haystack span (at + 2 * part) (at + part + left) codes.second
  pub third : IsStep p haystack span (at + 3 * part) (at + 2 * part + left) codes.third
  pub fourth : IsStep p haystack span (at + 4 * part) (at + 3 * part + left) codes.fourth

-- four walks passed through four adjacent parts, to their starts, or up to the first step at which a pattern begins
pub record HavePassed (b : Backward) (haystack : List ℕ) (span : Span) (at part : ℕ) (begin : Lanes)
    (old new : Counts) (passed : Passed) : Type 0 where
  pub left : passed.left ≤ part
  pub steps : 0 < passed.left → ForBackward b (λ tables. AreLanes tables haystack span at part part begin
      → AreSteps tables haystack span at part (passed.left - 1) passed.codes)
  pub fits : 0 < passed.left → HaveRows (2 ^ 32) passed.codes
  pub none : ForBackward b (λ tables. AreLanes tables haystack span at part part begin
      → NoneAfter tables haystack span.end at part passed.left)
  pub some : 0 < passed.left → ForBackward b (λ tables. AreLanes tables haystack span at part part begin
      → ¬ NoneFrom tables haystack span.end at (at + 4 * part))
  pub counted : new ≡ record old { scanned = old.scanned + 4 * (part - (passed.left - 1)) }

-- in each of four adjacent parts a relation holds of each offset after the first `left`, and its number in a list that
-- begins with that of the first part's start
pub record HoldAfter (R : ℕ → ℕ → Type 0) (numbers : List ℕ) (at part left : ℕ) : Type 0 where
  pub first : HoldIn R numbers at (at + left) (at + part)
  pub second : HoldIn R numbers at (at + part + left) (at + 2 * part)
  pub third : HoldIn R numbers at (at + 2 * part + left) (at + 3 * part)
  pub fourth : HoldIn R numbers at (at + 3 * part + left) (at + 4 * part)

-- these numbers are marks
abbrev pub AreMarksAfter : BackTables → List ℕ → ℕ → List ℕ → ℕ → ℕ → ℕ → Type 0
AreMarksAfter p haystack end marks = HoldAfter (IsMark p haystack end) marks

-- a block of four parts from an offset on, and a lead after them for each walk. If the last lead reaches the end of the
-- span, it may belong to the block
pub record IsFourParts (longest : ℕ) (span : Span) (at : ℕ) (b : Block) : Type 0 where
  pub some : 2 ≤ b.part
  pub inside : at + 4 * b.part + b.lead ≤ span.end
  pub far : longest ≤ b.lead + 1
  pub end : (b.end ≡ at + 4 * b.part) ⊎ ((b.end ≡ span.end) × (at + 4 * b.part + b.lead ≡ span.end))
  pub short : b.lead ≤ 2 * b.part + 4

-- the owed bytes, and those that walks look up in the block, are at most three times the bytes of the block, even if
-- each part is walked through twice
pub record IsPaid (owed at : ℕ) (b : Block) : Type 0 where
  pub once : 3 * at + 4 * b.part + 4 * b.lead + owed ≤ 3 * b.end
  pub twice : b.lead + owed ≤ 4 * b.part

-- the most bytes that a scan looks up in addition to three times those that it passes over, and 0 if there is no scan
abbrev pub owed_by : Option CandidateScan → ℕ
owed_by None = 0
owed_by (Some scan) = OVERLAP

-- the same for the scan that these numbers describe
abbrev pub owed_in : List ℕ → ℕ
owed_in prints = if past_skipped prints == 0 then 0 else OVERLAP

-- the most bytes that a scan reads after the offset at which it stops
abbrev pub ahead_by : Option CandidateScan → ℕ
ahead_by None = 0
ahead_by (Some scan) = ahead_of scan

-- the scan belongs to every search whose tables these are
abbrev pub AreFor : Backward → Option CandidateScan → Type 0
AreFor b scan = ForBackward b (λ tables. IfSome scan
    (λ s. IsScanFor s tables.search.ignore_case tables.search.query.patterns))

-- the bytes that are looked up for the first offset in a span at which a pattern begins: at least those that a pattern
-- there may have, or those of the span if there is none; and at most a multiple of those before it
abbrev pub ReadsFor : ℕ → Span → ℕ → ℕ → Option PatternStart → Type 0
ReadsFor longest span old new None = old + span.end ≤ new + span.start
ReadsFor longest span old new (Some begun) =
    (old + min (begun.at + longest) span.end ≤ new + span.start)
    × (new + 11 * span.start ≤ old + 11 * begun.at + 36 * first_part longest)

-- a search of a span is at an offset. Its parts are long enough, but not long yet. It has looked up each byte before
-- the offset, and at most three times as many, minus twice its credit, plus the owed bytes
pub record IsProgress (b : Backward) (span : Span) (owed old new : ℕ) (f : Progress) : Type 0 where
  pub after : span.start ≤ f.at
  pub inside : f.at ≤ span.end
  pub some : FIRST ≤ f.part
  pub long : b.table.longest + 5 ≤ 2 * f.part
  pub near : f.at < span.end → 4 * f.part + span.start ≤ f.at + 4 * first_part b.table.longest
  pub least : old + f.at ≤ new + span.start
  pub most : new + 2 * f.credit + 3 * span.start ≤ old + 3 * f.at + min owed (span.end - f.at)

-- the progress of a search that began at some count
abbrev pub HasProgress : Backward → Span → ℕ → ℕ → Progress → Type 0
HasProgress b span owed new f = (old : ℕ) × IsProgress b span owed old new f
