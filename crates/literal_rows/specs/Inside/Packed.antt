-- Bytes that are packed into numbers of 32 bits, four in each, the first in its lowest eight bits; and numbers that are
-- written into a list.
use Rattle.std.specs.Prelude.{◌≡◌, ℕ, ◌+◌, ◌*◌, List, length, map, slice_range}
use Rattle.std.specs.Int.{from_le_bytes, to_le_bytes, w32}
use Rattle.std.specs.List.{flat_map, range_with_len, splice}

-- `n` numbers that hold the bytes
abbrev pub packed : ℕ → List ℕ → List ℕ
packed n bytes = map (λ k. from_le_bytes w32 (slice_range bytes (4 * k) (4 * k + 4))) (range_with_len 0 n)

-- the bytes that numbers hold
abbrev pub unpacked : List ℕ → List ℕ
unpacked numbers = flat_map (to_le_bytes w32) numbers

-- numbers are written into a list from an index on, and the rest of it is unchanged
abbrev pub Puts : ℕ → List ℕ → List ℕ → List ℕ → Type 0
Puts at numbers old new = new ≡ splice old at (at + length numbers) numbers
