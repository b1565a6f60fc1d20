-- The tables of a list of patterns, and the case variants of the patterns.
use Rattle.std.specs.Prelude.{◌≡◌, ◌↔◌, ℕ, ◌<◌, ◌≤◌, true, Bool, List, length, Some, slice_get}
use Rattle.literal_base.specs.Occurs.{AreEqualBytes, pattern_at}
use Rattle.literal_prefilters.specs.Tables.{is_start_byte, largest_offset}

-- the byte is at the offset in a case variant of a pattern
pub record StandsIn (ignore_case : Bool) (patterns : List (List ℕ)) (byte offset : ℕ) : Type 0 where
  pub pattern : ℕ
  pub is_pattern : pattern < length patterns
  pub variant : List ℕ
  pub same : AreEqualBytes ignore_case variant (pattern_at patterns pattern)
  pub here : slice_get variant offset ≡ Some byte

-- the start bytes are those at offset 0 of case variants
abbrev pub StartsVariants : Bool → List (List ℕ) → Type 0
StartsVariants ignore_case patterns =
    (byte : ℕ) → (is_start_byte ignore_case patterns byte ≡ true) ↔ StandsIn ignore_case patterns byte 0

-- the distance of a byte that is in a case variant is the largest offset at which it is there
pub record IsLargestOffset (ignore_case : Bool) (patterns : List (List ℕ)) (byte : ℕ) : Type 0 where
  pub bound : (offset : ℕ) → StandsIn ignore_case patterns byte offset
      → offset ≤ largest_offset ignore_case patterns byte
  pub reached : (offset : ℕ) → StandsIn ignore_case patterns byte offset
      → StandsIn ignore_case patterns byte (largest_offset ignore_case patterns byte)
