use Rattle.std.proofs.Common.{◌<◌}
use Rattle.literal_fingerprints.proofs.buckets.best_for.Given as goal

abbrev pub invariant-loop-bucket : goal.invariant-loop-bucket
invariant-loop-bucket l = l.best < 8
