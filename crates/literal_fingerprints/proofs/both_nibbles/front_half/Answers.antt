use Rattle.literal_fingerprints.proofs.lemmas.Halves.{lanes_of_front}
use Rattle.literal_fingerprints.proofs.both_nibbles.front_half.Goals as goal

pub returns : goal.returns
returns c = lanes_of_front c.args.lanes c.fits-lanes.0
