use Rattle.literal_packed.proofs.lemmas.Longer.{AreBitsBefore}
use Rattle.literal_packed.proofs.rabinkarp.entries.longer_of.Given as goal

abbrev pub invariant-loop-bucket : goal.invariant-loop-bucket
invariant-loop-bucket l = AreBitsBefore l.starts l.bucket l.longer
