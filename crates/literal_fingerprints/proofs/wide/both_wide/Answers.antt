use Rattle.std.proofs.Common.{bit_and}
use Rattle.literal_fingerprints.proofs.lemmas.Lanes.{lanes_of_two}
use Rattle.literal_fingerprints.proofs.wide.both_wide.Goals as goal

pub returns : goal.returns
returns c = lanes_of_two bit_and c.args.one c.args.other c.fits-one.0 c.fits-other.0
