-- A `SearchBuilder` as contracts see it.
use Rattle.std.specs.Prelude.{Bool, false}
use Rattle.literal_base.specs.declared.packed.MatchKind.{MatchKind}
use Rattle.literal_base.specs.declared.packed.MatchKind.TheVariants.{LeftmostFirst}

-- the settings of a builder: the match kind, and whether ASCII case is ignored
pub record SearchBuilderValue : Type 0 where
  pub kind : MatchKind
  pub ignore_case : Bool

-- the default settings: the first in the list of the patterns that match at one offset is preferred, and case is kept
abbrev pub default_builder : SearchBuilderValue
default_builder = record { kind = LeftmostFirst; ignore_case = false }
