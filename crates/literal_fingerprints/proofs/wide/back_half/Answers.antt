use Rattle.literal_fingerprints.proofs.lemmas.Lanes.{lanes_of_back}
use Rattle.literal_fingerprints.proofs.wide.back_half.Goals as goal

pub returns : goal.returns
returns c = lanes_of_back c.args.lanes c.fits-lanes.0
