-- The fields of `Rolling`.
use Rattle.std.specs.Prelude.{ℕ, ◌%◌, ◌^◌}

-- the factor with which a byte that has left a window of this length is still in the sum, once the next byte is in:
-- 2^window modulo 2^64, so 0 from 64 bytes on
abbrev pub power_of : ℕ → ℕ
power_of window = 2 ^ window % 2 ^ 64
