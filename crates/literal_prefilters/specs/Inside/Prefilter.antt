-- The fields of `Prefilter` and of its builder.
use Rattle.std.specs.Prelude.{◌≡◌, [], Some, None, false, if◌then◌else◌}
use Rattle.literal_base.specs.declared.packed.MatchKind.TheVariants.{LeftmostFirst}
use Rattle.literal_packed.specs.PatternsValue.{IsInOrder}
use Rattle.literal_prefilters.specs.declared.prefilter.Finder.{Finder}
use Rattle.literal_prefilters.specs.declared.prefilter.Finder.TheVariants.{Memmem, Packed, StartBytesOne}
use Rattle.literal_prefilters.specs.declared.prefilter.Finder.TheVariants.{StartBytesTwo, StartBytesThree}
use Rattle.literal_prefilters.specs.declared.prefilter.Finder.TheVariants.{RareBytesOne, RareBytesTwo}
use Rattle.literal_prefilters.specs.declared.prefilter.Finder.TheVariants.{RareBytesThree}
use Rattle.literal_prefilters.specs.declared.prefilter.Builder.TheInside.{Inside}
use Rattle.literal_packed.specs.State.{state_of}
use Rattle.literal_prefilters.specs.Inside.Running.{IsRunning}
use Rattle.literal_prefilters.specs.PrefilterBuilderValue.{PrefilterBuilderValue, prefilter_limit}
use Rattle.literal_prefilters.specs.PrefilterValue.{PrefilterValue, by_table, by_memmem, by_packed}

-- a `Prefilter` as callers see it, for each of the eight kinds
abbrev pub value_of_finder : Finder → PrefilterValue
value_of_finder (Memmem pre) = by_memmem pre
value_of_finder (Packed pre) = by_packed pre
value_of_finder (StartBytesOne pre) = by_table pre
value_of_finder (StartBytesTwo pre) = by_table pre
value_of_finder (StartBytesThree pre) = by_table pre
value_of_finder (RareBytesOne pre) = by_table pre
value_of_finder (RareBytesTwo pre) = by_table pre
value_of_finder (RareBytesThree pre) = by_table pre

-- a prefilter's `Builder` as callers see it
abbrev pub builder_value : Inside → PrefilterBuilderValue
builder_value b = record {
  kind = b.kind;
  ignore_case = b.ascii_case_insensitive;
  state = if b.enabled then Some b.patterns.patterns else None;
}

-- the invariant of a prefilter's `Builder`: a disabled one has dropped its patterns; the patterns of any other may be
-- kept and are in order, and the running data are those of the patterns
pub record IsSound (b : Inside) : Type 0 where
  pub emptied : b.enabled ≡ false → b.patterns.patterns ≡ []
  pub allowed : state_of prefilter_limit b.patterns.patterns ≡ Some b.patterns.patterns
  pub first : b.patterns.kind ≡ LeftmostFirst
  pub in_order : IsInOrder b.patterns
  pub running : IsRunning b.ascii_case_insensitive b.patterns.patterns b.running
