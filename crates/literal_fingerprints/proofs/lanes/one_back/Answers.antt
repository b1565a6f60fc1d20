use Rattle.std.proofs.Common.{arith}
use Rattle.literal_fingerprints.proofs.lemmas.Lanes.{lanes_of_picked}
use Rattle.literal_fingerprints.proofs.lanes.one_back.Goals as goal

pub returns : goal.returns
returns c = lanes_of_picked 15 (omega arith) c.args.before c.args.here c.fits-before.0 c.fits-here.0
