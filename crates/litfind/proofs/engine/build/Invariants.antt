use Rattle.std.proofs.Common.{◌≡◌, map, take, string_bytes}
use Rattle.literal_packed.specs.BuilderValue.{builder_of}
use Rattle.literal_packed.specs.ConfigValue.{default_config}
use Rattle.litfind.proofs.engine.build.Given as goal

abbrev pub invariant-loop-pattern : goal.invariant-loop-pattern
invariant-loop-pattern l =
    l.builder
    ≡ builder_of (record default_config { kind = l.fn.kind }) (map string_bytes (take l.pattern-index l.patterns))
