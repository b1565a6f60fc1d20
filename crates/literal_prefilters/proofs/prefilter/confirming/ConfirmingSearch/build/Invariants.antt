use Rattle.std.proofs.Common.{◌≡◌, map}
use Rattle.literal_prefilters.specs.PrefilterBuilderValue.{with_added}
use Rattle.literal_prefilters.proofs.prefilter.confirming.ConfirmingSearch.build.Given as goal

abbrev pub invariant-loop-bytes : goal.invariant-loop-bytes
invariant-loop-bytes g l = l.builder ≡ with_added l.initial.builder (map (λ p. p.now) l.yielded)
