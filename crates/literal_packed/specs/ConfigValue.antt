-- A configuration as contracts see it.
use Rattle.std.specs.Prelude.{ℕ, ◌≤◌}
use Rattle.literal_base.specs.declared.packed.MatchKind.{MatchKind}
use Rattle.literal_base.specs.declared.packed.MatchKind.TheVariants.{LeftmostFirst}

-- a configuration: the match kind, and the largest number of patterns that a builder keeps, its limit
pub record ConfigValue : Type 0 where
  pub kind : MatchKind
  pub pattern_limit : ℕ

-- the default configuration: `LeftmostFirst`, and at most 128 patterns
abbrev pub default_config : ConfigValue
default_config = record { kind = LeftmostFirst; pattern_limit = 128 }

-- 65535, the largest pattern limit
abbrev pub max_pattern_limit : ℕ
max_pattern_limit = 65535

-- n is a valid limit of a configuration: at least 1, and at most the largest limit
pub record IsPatternLimit (n : ℕ) : Type 0 where
  pub some : 1 ≤ n
  pub few : n ≤ max_pattern_limit
