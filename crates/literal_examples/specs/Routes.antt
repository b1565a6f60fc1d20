-- Prefixes of a path.
use Rattle.std.specs.Prelude.{ℕ, ◌<◌, ◌≤◌, Bool, List, MatchOption, Option, length}
use Rattle.literal_base.specs.Occurs.{StandsAt, pattern_at}

-- the path begins with the prefix, and with none that is longer
pub record IsLongestPrefix (prefixes : List (List ℕ)) (ignore_case : Bool) (path : List ℕ) (i : ℕ) : Type 0 where
  pub is_prefix : i < length prefixes
  pub begins : StandsAt ignore_case (pattern_at prefixes i) path 0
  pub longest : (j : ℕ) → j < length prefixes → StandsAt ignore_case (pattern_at prefixes j) path 0
      → length (pattern_at prefixes j) ≤ length (pattern_at prefixes i)

-- the answer is the longest prefix with which the path begins, or None exactly if it begins with none
abbrev pub IsRoute : List (List ℕ) → Bool → List ℕ → Option ℕ → Type 0
IsRoute prefixes ignore_case path answer = MatchOption answer
    ((i : ℕ) → i < length prefixes → ¬ StandsAt ignore_case (pattern_at prefixes i) path 0)
    (IsLongestPrefix prefixes ignore_case path)
