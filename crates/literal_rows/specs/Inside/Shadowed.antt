-- The rows for some texts, and the first pattern that is a suffix of a text.
use Rattle.std.specs.Prelude.{ℕ, ◌≤◌, List, length, map}
use Rattle.std.specs.Global.{Vec}
use Rattle.literal_base.specs.Occurs.{pattern_at}
use Rattle.literal_rows.specs.Inside.Classes.{symbols_in}
use Rattle.literal_rows.specs.Inside.Suffixes.{IsSuffix}
use Rattle.literal_rows.specs.States.{IsRowsLength}
use Rattle.literal_rows.specs.Table.{Recognises}

-- the patterns as texts of classes
abbrev pub texts_by : List ℕ → List (Vec ℕ) → List (List ℕ)
texts_by classes patterns = map (symbols_in classes) (map (λ (pattern : Vec ℕ). pattern.items) patterns)

-- the rows are those of the automaton of some texts, one for each state
pub record AreRowsFor (texts : List (List ℕ)) (width : ℕ) (rows : List ℕ) : Type 0 where
  pub recognises : Recognises texts width rows
  pub states : IsRowsLength texts width (length rows)

-- this pattern is the first in the list that is a suffix of a text
pub record IsFirstOf (patterns : List (List ℕ)) (text : List ℕ) (first : ℕ) : Type 0 where
  pub is : IsSuffix patterns text first
  pub least : (i : ℕ) → IsSuffix patterns text i → first ≤ i

-- the texts with these numbers
abbrev pub chosen_by : List (List ℕ) → List ℕ → List (List ℕ)
chosen_by texts numbers = map (pattern_at texts) numbers
