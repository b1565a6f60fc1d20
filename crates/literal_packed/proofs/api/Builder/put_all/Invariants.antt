use Rattle.literal_packed.specs.BuilderValue.{AddsAll}
use Rattle.literal_packed.proofs.api.Builder.put_all.Given as goal

abbrev pub invariant-loop-bytes : goal.invariant-loop-bytes
invariant-loop-bytes g l = AddsAll l.fn.self l.yielded l.self
