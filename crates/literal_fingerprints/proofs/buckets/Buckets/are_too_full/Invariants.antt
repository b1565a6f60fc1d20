use Rattle.std.proofs.Common.{◌≡◌, ◌*◌, ◌^◌, ◌≤◌, sum_by, take}
use Rattle.literal_fingerprints.specs.Inside.Buckets.{texts_of}
use Rattle.literal_fingerprints.proofs.buckets.Buckets.are_too_full.Given as goal

abbrev pub invariant-loop-bucket : goal.invariant-loop-bucket
invariant-loop-bucket l = record {
  sum : l.texts ≡ sum_by (texts_of l.self.kinds) (take l.bucket-index l.self.buckets);
  bound : l.texts ≤ l.bucket-index * 2 ^ 34;
}
