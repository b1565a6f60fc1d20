use Rattle.std.proofs.Common.{◌≡◌, map, take}
use Rattle.literal_packed.specs.State.{state_of}
use Rattle.literal_prefilters.specs.PrefilterBuilderValue.{prefilter_limit}
use Rattle.literal_promise.specs.Together.{asked_builder}
use Rattle.literal_promise.proofs.covered.prefilter_for.Given as goal

abbrev pub invariant-loop-bytes : goal.invariant-loop-bytes
invariant-loop-bytes l = l.builder ≡ record (asked_builder l.fn.asked) {
  state = state_of prefilter_limit (map (λ p. p.now) (take l.bytes-index l.asked.patterns.now));
}
