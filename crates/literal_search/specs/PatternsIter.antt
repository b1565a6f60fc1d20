-- The patterns of a search, one after another: `Patterns`, as contracts see it.
use Rattle.std.specs.Prelude.{◌≡◌, ◌∷◌, [], ℕ, List, Option, None, Some, length}
use Rattle.std.specs.Borrow.{Bor}
use Rattle.std.specs.Iterator.{Count, at_most}

-- the answer of `next`: the first of the patterns that are to come, or None exactly if there is none
abbrev pub GivesPattern : List (List ℕ) → Option (Bor (List ℕ)) → List (List ℕ) → Type 0
GivesPattern left None after = (left ≡ []) × (after ≡ [])
GivesPattern left (Some pattern) after = left ≡ pattern.now ∷ after

-- the number of patterns to come
abbrev pub left_to_give : List (List ℕ) → Count
left_to_give left = at_most (length left)
