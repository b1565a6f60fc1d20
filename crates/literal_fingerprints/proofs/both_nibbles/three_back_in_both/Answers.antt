use Rattle.std.proofs.Common.{arith}
use Rattle.literal_fingerprints.proofs.lemmas.Halves.{halves_of_picked}
use Rattle.literal_fingerprints.proofs.both_nibbles.three_back_in_both.Goals as goal

pub returns : goal.returns
returns c = halves_of_picked c.args.before c.args.here c.fits-before.0 c.fits-here.0 13 (omega arith)
