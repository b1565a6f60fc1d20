use Rattle.std.proofs.Common.{arith}
use Rattle.literal_fingerprints.proofs.lemmas.Halves.{halves_fit, halves_of_entries}
use Rattle.literal_fingerprints.proofs.both_nibbles.look_up_both.Goals as goal

pub swizzle : goal.swizzle
swizzle c = halves_fit _ _ _ c.nibbles_of.ensures (λ k below. omega arith) (λ k below. omega arith)

pub returns : goal.returns
returns c low high has =
    halves_of_entries _ _ _ c.nibbles_of.ensures (λ k below. omega arith) (λ k below. omega arith) c.args.table low high
    has
