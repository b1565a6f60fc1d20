-- A list of byte strings from C: one buffer, and the offset at which each piece of it ends.
use Rattle.std.specs.Prelude.{ℕ, ◌≤◌, List, [], ◌∷◌}
use Rattle.std.specs.List.{slice_range}

-- a buffer of this length can be cut at the ends, from an offset on: none is smaller than the one before it or larger
-- than the length
abbrev pub AreEnds : ℕ → ℕ → List ℕ → Type 0
AreEnds len from [] = from ≤ len
AreEnds len from (end ∷ more) = (from ≤ end) × AreEnds len end more

-- the pieces of a buffer: from an offset to the first end, and from each end to the next
abbrev pub pieces : List ℕ → ℕ → List ℕ → List (List ℕ)
pieces buffer from [] = []
pieces buffer from (end ∷ more) = slice_range buffer from end ∷ pieces buffer end more
