use Rattle.std.proofs.Common.{◌/◌, ◌%◌}
use Rattle.literal_fingerprints.proofs.lemmas.Buckets.{bit_kept}
use Rattle.literal_fingerprints.proofs.buckets.Halves.with_all.Goals as goal

pub returns : goal.returns
returns c other has = record {
  low = bit_kept c.args.self.low _ (other % 16) has.low;
  high = bit_kept c.args.self.high _ (other / 16) has.high;
}
