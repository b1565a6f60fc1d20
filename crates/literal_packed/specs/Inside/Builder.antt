-- The fields of `Builder`.
use Rattle.std.specs.Prelude.{◌≡◌, [], Some, None, true, if◌then◌else◌}
use Rattle.literal_base.specs.declared.packed.MatchKind.TheVariants.{LeftmostFirst}
use Rattle.literal_packed.specs.declared.api.Builder.TheInside.{Inside}
use Rattle.literal_packed.specs.PatternsValue.{IsInOrder}
use Rattle.literal_packed.specs.BuilderValue.{BuilderValue}
use Rattle.literal_packed.specs.State.{state_of}

-- a `Builder` as callers see it
abbrev pub builder_value : Inside → BuilderValue
builder_value a = record { config = a.config; state = if a.inert then None else Some a.patterns.patterns }

-- the invariant of a `Builder`: an inert one has dropped its patterns; the patterns of any other may be kept, and are
-- in order
pub record IsSound (a : Inside) : Type 0 where
  pub emptied : a.inert ≡ true → a.patterns.patterns ≡ []
  pub allowed : state_of a.config.pattern_limit a.patterns.patterns ≡ Some a.patterns.patterns
  pub first : a.patterns.kind ≡ LeftmostFirst
  pub in_order : IsInOrder a.patterns
