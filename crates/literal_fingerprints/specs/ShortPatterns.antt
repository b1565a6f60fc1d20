-- Patterns of at most 16 bytes.
use Rattle.std.specs.Prelude.{◌≡◌, ◌==◌, ◌∷◌, [], ℕ, ◌<◌, ◌≤◌, Bool, List, drop, false, length, slice_index, take}
use Rattle.literal_fingerprints.specs.declared.short.ShortPattern.{ShortPattern}

-- this is the pattern
pub record IsShort (short : ShortPattern) (pattern : List ℕ) : Type 0 where
  pub some : 0 < length pattern
  pub few : length pattern ≤ 16
  pub len : short.len ≡ length pattern
  pub same : take short.len short.bytes ≡ pattern

-- a pattern in twenty bytes: its length is the second, and from the fifth on it is the pattern. The others are not used
abbrev pub short_in : List ℕ → ShortPattern
short_in bytes = record { bytes = drop 4 bytes; len = slice_index bytes 1 }

-- this is the only pattern of a list, and case is kept
pub record IsOnly (short : ShortPattern) (ignore_case : Bool) (patterns : List (List ℕ)) : Type 0 where
  pub pattern : List ℕ
  pub is : IsShort short pattern
  pub only : patterns ≡ pattern ∷ []
  pub with_case : ignore_case ≡ false

-- whether a byte is this one
abbrev pub is_byte : ℕ → ℕ → Bool
is_byte byte other = other == byte
