-- Backward walks through a span, by tables that may be lent.
use Rattle.std.specs.Prelude.{◌≡◌, ◌⊎◌, ℕ, ◌+◌, ◌-◌, ◌<◌, ◌≤◌, ◌^◌, ◌%◌, List, length, map}
use Rattle.std.specs.Prelude.{IfOk, IfSome, MatchOption, Option, Result, max, min, reverse, slice_index}
use Rattle.std.specs.Result.{IsOkAnd}
use Rattle.literal_base.specs.Counts.{Counts}
use Rattle.literal_base.specs.Leftmost.{IsBetter, IsLeftmostMatch}
use Rattle.literal_base.specs.MatchValue.{MatchValue}
use Rattle.literal_base.specs.Occurs.{Occurs, between}
use Rattle.literal_base.specs.declared.search.Span.{Span}
use Rattle.literal_fingerprints.specs.ShortPatterns.{IsOnly}
use Rattle.literal_fingerprints.specs.declared.short.ShortPattern.{ShortPattern}
use Rattle.literal_ids.specs.declared.primitives.pattern_id.TheConstants.PatternID
use Rattle.literal_base.specs.declared.packed.MatchKind.TheVariants.{LeftmostLongest}
use Rattle.literal_rows.specs.Links.{AreLinks}
use Rattle.literal_leftmost.specs.MatchesValue.{offset_after_start, offset_at_end}
use Rattle.literal_leftmost.specs.SearchValue.{SearchValue}
use Rattle.literal_rows.specs.Inside.Walk.{IsAt, classes_by, rows_by, text_of}
use Rattle.literal_leftmost.specs.SearchValue.{ScansThrice, looked_by}
use Rattle.literal_leftmost.specs.Prepared.{AreBackTables, ArePrints, BackTables, texts_back}
use Rattle.literal_rows.specs.Table.{Recognises}
use Rattle.literal_leftmost.specs.declared.backward.Backward.{Backward}
use Rattle.literal_leftmost.specs.declared.backward.Continuation.{Continuation}
use Rattle.literal_leftmost.specs.declared.backward.Continuation.TheVariants.{AfterStart, AtEnd}
use Rattle.literal_leftmost.specs.declared.backward.Looked.{Looked}
use Rattle.literal_leftmost.specs.declared.backward.Marks.{Marks}
use Rattle.literal_leftmost.specs.declared.backward.TheConstants.{LEAST}
use Rattle.literal_rows.specs.declared.damaged.Damaged.{Damaged}
use Rattle.literal_rows.specs.declared.array.TheConstants.{SCAN_LEN}

-- each byte has a class, there is a row, there are identifiers for the patterns, and numbers for a scan for candidates
pub record IsSafe (b : Backward) : Type 0 where
  pub each : length b.table.classes.now ≡ 64
  pub row : 256 < length b.table.rows.now
  pub few : length b.lens.now ≤ PatternID.LIMIT
  pub prints : length b.prints.now ≡ SCAN_LEN

-- the tables as those of a search
abbrev pub back_tables_by : SearchValue → Backward → BackTables
back_tables_by search b = record {
  search = search;
  classes = classes_by b.table;
  width = b.table.width;
  rows = rows_by b.table;
  longest = b.table.longest;
}

-- the tables are those of a search, with the length of each pattern, its link if the longest match is preferred, and a
-- scan that stops at each pattern, if there is one
pub record AreBackFor (search : SearchValue) (b : Backward) : Type 0 where
  pub tables : AreBackTables (back_tables_by search b)
  pub lens : b.lens.now ≡ map (λ bytes. length bytes) search.query.patterns
  pub links : search.query.kind ≡ LeftmostLongest
      → AreLinks (texts_back (back_tables_by search b)) b.links.now (length search.query.patterns)
  pub prints : ArePrints search.query.patterns search.ignore_case b.prints.now

-- a property holds of every search whose tables they are
abbrev pub ForBackward : Backward → (BackTables → Type 0) → Type 0
ForBackward b P = (search : SearchValue) → AreBackFor search b → P (back_tables_by search b)

-- a walk has read a haystack backward from an offset to another, and is in the row for what it read
pub record HasReadBack (p : BackTables) (haystack : List ℕ) (from at row : ℕ) : Type 0 where
  pub fits : row + p.width < length p.rows
  pub is_at : (recognises : Recognises (texts_back p) p.width p.rows)
      → IsAt (texts_back p) p.width p.rows recognises
      (reverse (text_of p.classes haystack (between at from))) row

-- no pattern begins at an offset and lies whole before an end
abbrev pub NoneBeginsAt : BackTables → List ℕ → ℕ → ℕ → Type 0
NoneBeginsAt p haystack end at =
    (i : ℕ) → ¬ Occurs p.search.query.patterns p.search.ignore_case haystack (between at end) i at

-- of the patterns that begin at an offset and lie whole before an end, this one is preferred
pub record BeginsBest (p : BackTables) (haystack : List ℕ) (end at i : ℕ) : Type 0 where
  pub occurs : Occurs p.search.query.patterns p.search.ignore_case haystack (between at end) i at
  pub best : (j : ℕ) → IsBetter p.search.query.kind p.search.query.patterns j i
      → ¬ Occurs p.search.query.patterns p.search.ignore_case haystack (between at end) j at

-- the pattern named by the row to which a number leads
abbrev pub named_by : BackTables → ℕ → ℕ
named_by p code = slice_index p.rows (code - 2 ^ 31 + p.width)

-- the mark of the offset at which it was read: from 2^31 on, a pattern begins there, which the row names; below, none
-- does
pub record IsMark (p : BackTables) (haystack : List ℕ) (end at code : ℕ) : Type 0 where
  pub none : code < 2 ^ 31 → NoneBeginsAt p haystack end at
  pub row : 2 ^ 31 ≤ code → code - 2 ^ 31 + p.width < length p.rows
  pub best : 2 ^ 31 ≤ code → BeginsBest p haystack end at (named_by p code)

-- a part of the span, at least as long as the longest pattern, unless it ends with the span
pub record IsBlock (longest : ℕ) (span block : Span) : Type 0 where
  pub after : span.start ≤ block.start
  pub some : block.start < block.end
  pub inside : block.end ≤ span.end
  pub full : (block.end ≡ span.end) ⊎ (longest ≤ block.end - block.start)

-- no pattern begins between two offsets
abbrev pub NoneFrom : BackTables → List ℕ → ℕ → ℕ → ℕ → Type 0
NoneFrom p haystack end from upto = (at : ℕ) → from ≤ at → at < upto → NoneBeginsAt p haystack end at

-- a relation holds of each offset from one up to another, and its number in a list that begins with that of `start`
abbrev pub HoldIn : (ℕ → ℕ → Type 0) → List ℕ → ℕ → ℕ → ℕ → Type 0
HoldIn R numbers start from upto = (at : ℕ) → from ≤ at → at < upto → R at (slice_index numbers (at - start))

-- these numbers are marks
abbrev pub AreMarks : BackTables → List ℕ → ℕ → List ℕ → ℕ → ℕ → ℕ → Type 0
AreMarks p haystack end marks start from upto = HoldIn (IsMark p haystack end) marks start from upto

-- the offset from which a list continues after an answer
abbrev pub offset_by : Continuation → Span → Option MatchValue → ℕ
offset_by AtEnd = offset_at_end
offset_by AfterStart = offset_after_start

-- how many marks a list needs at most: those of a block, or of the span if it is shorter
abbrev pub room_for : ℕ → Span → ℕ
room_for longest span = min (max longest LEAST) (span.end - span.start)

-- the list continues at `at`. There are marks before one offset, and up to another it is known what begins. The bytes
-- before `at` were looked up
pub record IsPlaced (longest : ℕ) (span : Span) (at : ℕ) (m : Marks) : Type 0 where
  pub after : span.start ≤ at
  pub inside : at ≤ span.end
  pub known_after : span.start ≤ m.known
  pub known_inside : m.known ≤ span.end
  pub full : (m.known ≡ span.start) ⊎ ((m.known ≡ span.end) ⊎ (longest ≤ m.known - span.start))
  pub looked : at ≤ looked_by longest span m.known
  pub first : at < m.upto → m.first ≤ at
  pub listed : m.upto ≤ m.first + room_for longest span
  pub upto_known : m.upto ≤ m.known

-- a list that continues at `at` has a mark there, if it has marks so far. There are at most as many as fit
pub record AreListed (span : Span) (at len : ℕ) (m : Marks) : Type 0 where
  pub after : span.start ≤ at
  pub inside : at ≤ span.end
  pub first : at < m.upto → m.first ≤ at
  pub listed : m.upto ≤ m.first + len
  pub upto_known : m.upto ≤ m.known
  pub known_inside : m.known ≤ span.end

-- there are marks of each offset from `at` on up to one, and from there up to the known offset no pattern begins
pub record AreMarked (p : BackTables) (haystack : List ℕ) (span : Span) (at : ℕ) (numbers : List ℕ) (m : Marks)
    : Type 0 where
  pub marks : AreMarks p haystack span.end numbers m.first at m.upto
  pub none : (k : ℕ) → at ≤ k → m.upto ≤ k → k < m.known → NoneBeginsAt p haystack span.end k

-- the block that begins at an offset is marked: it is as long as the longest pattern, or ends with the span
pub record IsBlockMarked (longest : ℕ) (span : Span) (from : ℕ) (m : Marks) : Type 0 where
  pub first : m.first ≡ from
  pub upto : m.upto ≤ m.known
  pub some : from < m.known
  pub inside : m.known ≤ span.end
  pub full : (m.known ≡ span.end) ⊎ (from + longest ≤ m.known)
  pub listed : m.upto ≤ from + max longest LEAST

-- a number was read for the byte at an offset, and the walk continues from there
pub record IsRead (p : BackTables) (haystack : List ℕ) (from at code : ℕ) : Type 0 where
  pub mark : IsMark p haystack from at code
  pub stands : HasReadBack p haystack from at (code % 2 ^ 31)

-- a match begins at an offset or after it, is not empty, ends in the span, is no longer than the longest pattern, and
-- names one of the patterns
pub record IsMatchBy (b : Backward) (span : Span) (at : ℕ) (found : MatchValue) : Type 0 where
  pub after : at ≤ found.start
  pub some : found.start < found.end
  pub inside : found.end ≤ span.end
  pub short : found.end ≤ found.start + b.table.longest
  pub pattern : found.pattern < length b.lens.now

-- a short pattern is the only pattern of every search whose tables these are. It has the length of the longest one
pub record IsOnlyOf (b : Backward) (short : ShortPattern) : Type 0 where
  pub only : ForBackward b (λ tables. IsOnly short tables.search.ignore_case tables.search.query.patterns)
  pub len : short.len ≡ b.table.longest
  pub some : 0 < short.len
  pub few : short.len ≤ 16
  pub has_length : 0 < length b.lens.now

-- a match was found, or no pattern begins before the offset where the search goes on. From there up to the known offset
-- the marks tell what begins
pub record HasLookedAhead (b : Backward) (haystack : List ℕ) (span : Span) (from : ℕ) (numbers numbers_new : List ℕ)
    (m new : Marks) (old_counts counts : Counts) (result : Result Looked Damaged) : Type 0 where
  pub later : IfOk result (λ looked. (from ≤ looked.at) × (looked.at ≤ new.known))
  pub none : ForBackward b (λ tables. IsOkAnd result (λ looked. MatchOption looked.found
      (NoneFrom tables haystack span.end from looked.at)
      (IsLeftmostMatch tables.search.query tables.search.ignore_case haystack (between from span.end))))
  pub lies : IfOk result (λ looked. IfSome looked.found
      (λ found. IsMatchBy b span from found × (looked.at ≡ found.start + 1)))
  pub marked : ForBackward b (λ tables. AreMarked tables haystack span from numbers m
      → IfOk result (λ looked. AreMarked tables haystack span looked.at numbers_new new))
  pub placed : IfOk result (λ looked. IsPlaced b.table.longest span looked.at new)
  pub known : IfOk result (λ _. from < new.known)
  pub further : (m.known ≤ new.known) × (new.known ≤ span.end)
  pub bounded : ScansThrice (between m.known new.known) old_counts counts
  pub least : IfOk result (λ _. old_counts.scanned + looked_by b.table.longest span new.known
      ≤ counts.scanned + looked_by b.table.longest span m.known)
