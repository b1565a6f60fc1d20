-- The bits of a signed number.
use Rattle.std.specs.Prelude.{ℕ, ℤ, pos, ◌^◌, ◌-◌, ◌+ℤ◌, ◌-ℤ◌, if◌then◌else◌, int_lt}

-- the k bits of a number, read as an unsigned number: n if it is not negative, otherwise n + 2^k
abbrev pub bits_of : ℕ → ℤ → ℤ
bits_of k n = if int_lt n (pos 0) then n +ℤ pos (2 ^ k) else n

-- the signed number that has the k bits of an unsigned number m: m if it is below 2^(k-1), otherwise m - 2^k
abbrev pub number_of : ℕ → ℤ → ℤ
number_of k m = if int_lt m (pos (2 ^ (k - 1))) then m else m -ℤ pos (2 ^ k)
