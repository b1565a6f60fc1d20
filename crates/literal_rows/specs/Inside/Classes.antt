-- Classes of bytes, and what they distinguish.
use Rattle.std.specs.Prelude.{◌≡◌, ◌↔◌, ℕ, ◌+◌, ◌<◌, ◌≤◌, Bool, true, false, if◌then◌else◌, List, length, map}
use Rattle.std.specs.Prelude.{slice_index, slice_index_or}
use Rattle.std.specs.Char.{to_ascii_lowercase}
use Rattle.literal_base.specs.Occurs.{pattern_at}

-- the byte itself, or, if case is ignored, the lowercase letter for one of A to Z
abbrev pub folded : Bool → ℕ → ℕ
folded ignore_case byte = if ignore_case then to_ascii_lowercase byte else byte

-- the classes of bytes
abbrev pub symbols_in : List ℕ → List ℕ → List ℕ
symbols_in classes bytes = map (λ byte. slice_index classes byte) bytes

-- each byte has a class below the number of classes, which is at most 256
pub record AreClasses (classes : List ℕ) (width : ℕ) : Type 0 where
  pub each : length classes ≡ 256
  pub some : 0 < width
  pub few : width ≤ 256
  pub below : (byte : ℕ) → byte < 256 → slice_index classes byte < width

-- a byte has the class of a pattern's byte exactly if both are the same byte, once both are folded
abbrev pub Tells : Bool → List ℕ → List (List ℕ) → Type 0
Tells ignore_case classes patterns =
    (i k byte : ℕ) → i < length patterns → k < length (pattern_at patterns i) → byte < 256
    → (slice_index classes byte ≡ slice_index classes (slice_index (pattern_at patterns i) k))
    ↔ (folded ignore_case byte ≡ folded ignore_case (slice_index (pattern_at patterns i) k))

-- no byte of a pattern has the last class, unless there are 256 classes
abbrev pub LeavesLast : List ℕ → ℕ → List (List ℕ) → Type 0
LeavesLast classes width patterns =
    width < 256 → (i k : ℕ) → i < length patterns → k < length (pattern_at patterns i)
    → slice_index classes (slice_index (pattern_at patterns i) k) + 1 < width

-- each element of the pattern is a byte, and is marked once it is folded
abbrev pub Marks : Bool → List Bool → List ℕ → Type 0
Marks ignore_case seen bytes =
    (k : ℕ) → k < length bytes
    → (slice_index bytes k < 256) × (slice_index_or seen (folded ignore_case (slice_index bytes k)) false ≡ true)

-- a byte is one of some bytes, once these are folded
abbrev pub IsFoldOfOne : Bool → List ℕ → ℕ → Type 0
IsFoldOfOne ignore_case bytes byte =
    (k : ℕ) × (k < length bytes) × (folded ignore_case (slice_index bytes k) ≡ byte)

-- the marked ones of the first bytes have distinct numbers below `next`; an unmarked one leaves a number free
pub record AreNumbers (seen : List Bool) (numbers : List ℕ) (bytes next : ℕ) : Type 0 where
  pub each : length numbers ≡ 256
  pub few : next ≤ bytes
  pub room : (byte : ℕ) → byte < bytes → slice_index_or seen byte false ≡ false → next < bytes
  pub below : (byte : ℕ) → byte < bytes → slice_index_or seen byte false ≡ true → slice_index numbers byte < next
  pub apart : (a b : ℕ) → a < bytes → b < bytes → slice_index_or seen a false ≡ true → slice_index_or seen b false
      ≡ true
      → slice_index numbers a ≡ slice_index numbers b → a ≡ b

-- a byte has the class of a marked byte exactly if both are the same byte, once both are folded
abbrev pub TellsMarked : Bool → List Bool → List ℕ → Type 0
TellsMarked ignore_case seen classes =
    (byte marked : ℕ) → byte < 256 → marked < 256 → slice_index_or seen (folded ignore_case marked) false ≡ true
    → (slice_index classes byte ≡ slice_index classes marked) ↔ (folded ignore_case byte ≡ folded ignore_case marked)
