use Rattle.literal_fingerprints.proofs.lemmas.Halves.{halves_of_both}
use Rattle.literal_fingerprints.proofs.both_nibbles.front_and_back.Goals as goal

pub returns : goal.returns
returns c = halves_of_both c.args.front c.args.back c.fits-front.0 c.fits-back.0
