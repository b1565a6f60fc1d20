-- The sum of a window of bytes.
use Rattle.std.specs.Prelude.{ℕ, ◌+◌, ◌*◌, ◌%◌, ◌^◌, List, [], ◌∷◌, length}

-- the sum of the bytes, each times 2 to the power of the number of bytes after it
abbrev pub weighted : List ℕ → ℕ
weighted [] = 0
weighted (b ∷ w) = b * 2 ^ length w + weighted w

-- the sum of a window: its bytes weighted like this, modulo 2^64
abbrev pub sum_of : List ℕ → ℕ
sum_of w = weighted w % 2 ^ 64
