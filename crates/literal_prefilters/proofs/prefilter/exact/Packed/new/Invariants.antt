use Rattle.std.proofs.Common.{◌≡◌, take}
use Rattle.literal_packed.specs.BuilderValue.{builder_of}
use Rattle.literal_packed.specs.ConfigValue.{default_config}
use Rattle.literal_prefilters.proofs.prefilter.exact.Packed.new.Given as goal

abbrev pub invariant-loop-id : goal.invariant-loop-id
invariant-loop-id l =
    l.builder ≡ builder_of (record default_config { kind = l.fn.kind }) (take l.id l.patterns.patterns)
