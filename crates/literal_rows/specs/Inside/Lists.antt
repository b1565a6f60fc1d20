-- The fields of `Recognised` and `Lists`.
use Rattle.std.specs.Prelude.{◌≡◌, ℕ, ◌+◌, ◌-◌, ◌<◌, ◌≤◌, ◌^◌, List, Some, length, map, slice_index}
use Rattle.std.specs.Option.{unwrap_or}
use Rattle.literal_base.specs.Occurs.{NoneIsEmpty, pattern_at}
use Rattle.literal_rows.specs.Inside.Classes.{AreClasses, symbols_in}
use Rattle.literal_rows.specs.Inside.Suffixes.{AreSuffixes, IsOutputLink, IsNextEqual}
use Rattle.literal_rows.specs.Inside.Walk.{IsAt, IsRow}
use Rattle.literal_rows.specs.Table.{Recognises, nothing}
use Rattle.literal_rows.specs.Words.{ending}
use Rattle.literal_rows.specs.declared.suffixes.Recognised.{Recognised}

-- the patterns as texts of symbols
abbrev pub symbols_of : Recognised → List (List ℕ)
symbols_of r = map (λ pattern. symbols_in r.classes.now pattern.items) r.patterns.now

-- the rows are those of the patterns, none of which is empty
pub record Recognise (r : Recognised) : Type 0 where
  pub classes : AreClasses r.classes.now r.width
  pub recognises : Recognises (symbols_of r) r.width r.rows.now
  pub some : NoneIsEmpty (symbols_of r)
  pub few : length r.patterns.now ≤ 2 ^ 31 - 1

-- each pattern up to a bound has the longest one that is a suffix of it; of equal ones, the first
pub record AreLongest (patterns : List (List ℕ)) (longest : List ℕ) (count : ℕ) : Type 0 where
  pub long : length longest ≡ count
  pub each : (i : ℕ) → i < count
      → slice_index longest i ≡ unwrap_or (ending patterns (pattern_at patterns i)) nothing

-- each pattern from a number on has its output link
pub record AreOutputLinks (patterns : List (List ℕ)) (links : List ℕ) (from : ℕ) : Type 0 where
  pub long : length links ≡ length patterns
  pub each : (i : ℕ) → from ≤ i → i < length patterns → IsOutputLink patterns i (slice_index links i)

-- concatenated lists for `count` patterns: a pattern that is the first of its equals has the list of its suffixes among
-- the patterns, and the others have empty lists
pub record AreLists (patterns : List (List ℕ)) (ends starts : List ℕ) (count : ℕ) : Type 0 where
  pub long : length starts ≡ count + 1
  pub ordered : (i : ℕ) → i < count → slice_index starts i ≤ slice_index starts (i + 1)
  pub inside : (i : ℕ) → i ≤ count → slice_index starts i ≤ length ends
  pub last : slice_index starts count ≡ length ends
  pub each : (i : ℕ) → i < count → ending patterns (pattern_at patterns i) ≡ Some i
      → AreSuffixes patterns (pattern_at patterns i) 0 ends (slice_index starts i) (slice_index starts (i + 1))
  pub others : (i : ℕ) → i < count → ¬ (ending patterns (pattern_at patterns i) ≡ Some i)
      → slice_index starts i ≡ slice_index starts (i + 1)

-- a walk that read a text is in a row
pub record HasReadText (r : Recognised) (row : ℕ) (text : List ℕ) : Type 0 where
  pub is_row : IsRow r.width r.rows.now row
  pub at : (recognises : Recognises (symbols_of r) r.width r.rows.now)
      → IsAt (symbols_of r) r.width r.rows.now recognises text row

-- each pattern that is the first of its equals has the first of these from a number on
pub record AreNextEquals (patterns : List (List ℕ)) (heads : List ℕ) (from : ℕ) : Type 0 where
  pub long : length heads ≡ length patterns
  pub each : (i : ℕ) → i < length patterns → ending patterns (pattern_at patterns i) ≡ Some i
      → IsNextEqual patterns i from (slice_index heads i)
