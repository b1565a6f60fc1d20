-- The rows of an automaton, and after them the class of each byte.
use Rattle.std.specs.Prelude.{ℕ, ◌-◌, List, [], ◌∷◌, ◌++◌, length, take}
use Rattle.std.specs.List.{repeat}
use Rattle.literal_rows.specs.Inside.Packed.{packed}

-- the rows: all but the last 256 numbers
abbrev pub rows_of : List ℕ → List ℕ
rows_of numbers = take (length numbers - 256) numbers

-- 256 numbers, of which the first 64 hold the classes, and the others are zeros
unfoldable pub packed_classes : List ℕ → List ℕ
packed_classes classes = packed 64 classes ++ repeat 192 (0 ∷ [])
