use Rattle.std.proofs.Common.{◌<◌}
use Rattle.literal_fingerprints.proofs.buckets.weight_of.Given as goal

abbrev pub invariant-loop-byte : goal.invariant-loop-byte
invariant-loop-byte l = 0 < l.weight
