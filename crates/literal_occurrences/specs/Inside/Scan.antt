-- The numbers of an automaton, and passing over bytes by them.
use Rattle.std.specs.Prelude.{◌≡◌, ℕ, ◌*◌, ◌≤◌, Bool, List, false, map}
use Rattle.literal_base.specs.Occurs.{NoneIsEmpty, Occurs}
use Rattle.literal_base.specs.declared.search.Span.{Span}
use Rattle.literal_leftmost.specs.SearchValue.{longest_of}
use Rattle.literal_rows.specs.Inside.Classes.{AreClasses, Tells, symbols_in}
use Rattle.literal_rows.specs.Inside.Walk.{classes_by, rows_by}
use Rattle.literal_rows.specs.Table.{Recognises}
use Rattle.literal_occurrences.specs.declared.scan.TheConstants.{LONGEST}
use Rattle.literal_rows.specs.declared.walk.Table.{Table}

-- the numbers are those of an automaton for patterns, none of them empty: classes that distinguish their bytes, rows
-- that recognise their texts in these classes, and the length of the longest
pub record IsTableFor (t : Table) (patterns : List (List ℕ)) (ignore_case : Bool) : Type 0 where
  pub classes : AreClasses (classes_by t) t.width
  pub tells : Tells ignore_case (classes_by t) patterns
  pub recognises : Recognises (map (symbols_in (classes_by t)) patterns) t.width (rows_by t)
  pub some : NoneIsEmpty patterns
  pub longest : t.longest ≡ longest_of patterns

-- a property holds for all patterns of which these are the numbers
abbrev pub ForPatterns : Table → (List (List ℕ) → Bool → Type 0) → Type 0
ForPatterns t P =
    (patterns : List (List ℕ)) (ignore_case : Bool) → IsTableFor t patterns ignore_case → P patterns ignore_case

-- no occurrence in the span begins before an offset
abbrev pub NoneBefore : List (List ℕ) → Bool → List ℕ → Span → ℕ → Type 0
NoneBefore patterns ignore_case haystack span at =
    (i offset : ℕ) → Occurs patterns ignore_case haystack span i offset → at ≤ offset

-- the least distance of one walk before bytes are passed over: half of what is then read in vain, by a scan 16 bytes,
-- by four walks six blocks, each at least twice as long as the longest pattern
pub record IsNear (t : Table) (by_scan : Bool) (near : ℕ) : Type 0 where
  pub some : 8 ≤ near
  pub long : by_scan ≡ false → t.longest ≤ LONGEST → 6 * t.longest ≤ near
  pub short : near ≤ 6 * LONGEST
