use Rattle.literal_fingerprints.proofs.lemmas.Halves.{halves_of_two}
use Rattle.literal_fingerprints.proofs.both_nibbles.joined.Goals as goal

pub returns : goal.returns
returns c = halves_of_two c.args.front c.args.back c.fits-front.0 c.fits-back.0
