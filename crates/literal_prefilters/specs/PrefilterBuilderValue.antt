-- The builder of a prefilter, as contracts see it.
use Rattle.std.specs.Prelude.{ℕ, Bool, List, Option}
use Rattle.literal_base.specs.declared.search.MatchKind.{MatchKind}
use Rattle.literal_packed.specs.State.{state_after}

-- 2147483647, the largest number of patterns for which a prefilter is built
abbrev pub prefilter_limit : ℕ
prefilter_limit = 2147483647

-- a prefilter's `Builder` as contracts see it: the match kind, whether case is ignored, and the patterns, or None if it
-- is disabled
pub record PrefilterBuilderValue : Type 0 where
  pub kind : MatchKind
  pub ignore_case : Bool
  pub state : Option (List (List ℕ))

-- a builder after more patterns were added
abbrev pub with_added : PrefilterBuilderValue → List (List ℕ) → PrefilterBuilderValue
with_added b more = record b { state = state_after prefilter_limit b.state more }
