use Rattle.std.proofs.Common.{◌≡◌, map, take}
use Rattle.literal_packed.specs.BuilderValue.{builder_of}
use Rattle.literal_promise.specs.Together.{asked_config}
use Rattle.literal_promise.proofs.build.Given as goal

abbrev pub invariant-loop-bytes : goal.invariant-loop-bytes
invariant-loop-bytes l =
    l.builder ≡ builder_of (asked_config l.fn.asked) (map (λ p. p.now) (take l.bytes-index l.asked.patterns.now))
