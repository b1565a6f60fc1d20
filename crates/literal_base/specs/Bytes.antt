-- Sets of bytes, and the other case of a letter.
use Rattle.std.specs.Prelude.{ℕ, ◌+◌, ◌-◌, ◌<◌, Bool, false, if◌then◌else◌, List, map, nat_lt, slice_index_or}
use Rattle.std.specs.List.{All, range_with_len}

-- each number in the list is below 256
abbrev pub AreBytes : List ℕ → Type 0
AreBytes bytes = All (λ b. b < 256) bytes

-- a list with a value for each of the 256 bytes, from byte 0 up
unfoldable pub by_byte : {X : Type 0} → (ℕ → X) → List X
by_byte f = map f (range_with_len 0 256)

-- all bytes, in ascending order
unfoldable pub all_bytes : List ℕ
all_bytes = range_with_len 0 256

-- whether a byte is in a set. A set is a list with a boolean for each byte; a number from 256 on is in no set
abbrev pub contains : List Bool → ℕ → Bool
contains set byte = slice_index_or set byte false

-- the empty set
abbrev pub no_bytes : List Bool
no_bytes = by_byte (λ _. false)

-- the same letter in the other case, for A to Z (65 to 90) and a to z (97 to 122); any other byte is unchanged
abbrev pub opposite_case : ℕ → ℕ
opposite_case b =
    if nat_lt b 65 then b else (if nat_lt b 91 then b + 32 else
    (if nat_lt b 97 then b else (if nat_lt b 123 then b - 32 else b)))
