-- The patterns that are suffixes of a text: the order in which they are found, and lists of them.
use Rattle.std.specs.Prelude.{◌≡◌, ◌≢◌, ◌⊎◌, ℕ, ◌+◌, ◌*◌, ◌-◌, ◌<◌, ◌≤◌, List, ◌++◌, length, slice_index}
use Rattle.std.specs.List.{All, AllPairs, Contains}
use Rattle.literal_base.specs.Occurs.{pattern_at}
use Rattle.literal_rows.specs.Table.{nothing}

-- a text ends with a suffix
pub record HasSuffix (text end : List ℕ) : Type 0 where
  pub prefix : List ℕ
  pub split : text ≡ prefix ++ end

-- the pattern of this number is a suffix of a text
pub record IsSuffix (patterns : List (List ℕ)) (text : List ℕ) (i : ℕ) : Type 0 where
  pub is_pattern : i < length patterns
  pub ends : HasSuffix text (pattern_at patterns i)

-- one pattern comes later than another: it is shorter, or as long and its number is greater
abbrev pub ComesLater : List (List ℕ) → ℕ → ℕ → Type 0
ComesLater patterns i other =
    (length (pattern_at patterns other) < length (pattern_at patterns i))
    ⊎ ((length (pattern_at patterns other) ≡ length (pattern_at patterns i)) × (i < other))

-- this pattern comes first of those that are suffixes of a text
pub record IsFirstSuffix (patterns : List (List ℕ)) (text : List ℕ) (first : ℕ) : Type 0 where
  pub is : IsSuffix patterns text first
  pub others : (i : ℕ) → IsSuffix patterns text i → (first ≡ i) ⊎ ComesLater patterns first i

-- an output link of a pattern leads to the next later pattern that is a suffix of it, or to none
pub record IsOutputLink (patterns : List (List ℕ)) (pattern link : ℕ) : Type 0 where
  pub next : (link ≡ nothing)
      ⊎ (IsSuffix patterns (pattern_at patterns pattern) link × ComesLater patterns pattern link)
  pub others : (i : ℕ) → IsSuffix patterns (pattern_at patterns pattern) i → ComesLater patterns pattern i
      → (link ≢ nothing) × ((link ≡ i) ⊎ ComesLater patterns link i)

-- the first number from `from` on of a pattern equal to this one, or `nothing`
pub record IsNextEqual (patterns : List (List ℕ)) (pattern from next : ℕ) : Type 0 where
  pub is : (next ≡ nothing)
      ⊎ ((from ≤ next) × (next < length patterns) × (pattern_at patterns next ≡ pattern_at patterns pattern))
  pub others : (i : ℕ) → from ≤ i → i < length patterns → pattern_at patterns i ≡ pattern_at patterns pattern
      → (next ≢ nothing) × (next ≤ i)

-- a list has patterns that are suffixes of a text, each later than those before it, and `next` is later than all. Any
-- other pattern that is a suffix of the text comes after `next`
pub record HasUpTo (patterns : List (List ℕ)) (text list : List ℕ) (next : ℕ) : Type 0 where
  pub each : All (IsSuffix patterns text) list
  pub order : AllPairs (ComesLater patterns) list
  pub earlier : next ≢ nothing → All (λ i. ComesLater patterns i next) list
  pub others : (i : ℕ) → IsSuffix patterns text i
      → Contains list i ⊎ ((next ≢ nothing) × ((next ≡ i) ⊎ ComesLater patterns next i))
  pub next_is : (next ≡ nothing) ⊎ IsSuffix patterns text next

-- the most steps that a chain has left
abbrev pub left_from : List (List ℕ) → ℕ → ℕ
left_from patterns next = length (pattern_at patterns next) * length patterns + (length patterns - next)

-- a part of a list has the numbers, from `from` on, of the patterns that are suffixes of a text, each once, ascending
pub record AreSuffixes (patterns : List (List ℕ)) (text : List ℕ) (from : ℕ) (list : List ℕ) (begin end : ℕ)
    : Type 0 where
  pub ascends : (j k : ℕ) → begin ≤ j → j < k → k < end → slice_index list j < slice_index list k
  pub each : (k : ℕ) → begin ≤ k → k < end → IsSuffix patterns text (slice_index list k) × (from ≤ slice_index list k)
  pub every : (i : ℕ) → IsSuffix patterns text i → from ≤ i
      → (k : ℕ) × (begin ≤ k) × (k < end) × (slice_index list k ≡ i)
