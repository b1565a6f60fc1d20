use Rattle.std.proofs.Common.{◌<◌, length}
use Rattle.literal_fingerprints.proofs.pair.bytes_before_pair.Given as goal

abbrev pub invariant-loop-at : goal.invariant-loop-at
invariant-loop-at l = l.skipped < length l.pattern
