use Rattle.std.proofs.Common.{◌/◌, ◌%◌, arith}
use Rattle.std.proofs.lemmas.Nat.Bits.{bit_at_set_same}
use Rattle.literal_fingerprints.proofs.lemmas.Buckets.{bit_kept}
use mir.Syntax.{w16}
use Rattle.literal_fingerprints.proofs.buckets.Halves.with.Goals as goal

pub returns-clause-has : goal.returns-clause-has
returns-clause-has c = record {
  low = bit_at_set_same w16 c.args.self.low (c.args.byte % 16) (omega arith);
  high = bit_at_set_same w16 c.args.self.high (c.args.byte / 16) (omega arith);
}

pub returns-clause-keeps : goal.returns-clause-keeps
returns-clause-keeps c = λ other has. record {
  low = bit_kept c.args.self.low _ (other % 16) has.low;
  high = bit_kept c.args.self.high _ (other / 16) has.high;
}
