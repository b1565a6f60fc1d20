use Rattle.literal_fingerprints.proofs.lemmas.Lanes.{lanes_of_twice}
use Rattle.literal_fingerprints.proofs.wide.twice.Goals as goal

pub returns : goal.returns
returns c = lanes_of_twice c.args.half c.fits-half.0
