use Rattle.std.proofs.Common.{arith}
use Rattle.literal_fingerprints.proofs.lemmas.Lanes.{wide_of_picked}
use Rattle.literal_fingerprints.proofs.wide.three_back_wide.Goals as goal

pub returns : goal.returns
returns c = wide_of_picked 29 (omega arith) (omega arith) c.args.before c.args.here c.fits-before.0 c.fits-here.0
