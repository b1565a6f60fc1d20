use Rattle.literal_fingerprints.proofs.lemmas.Lanes.{lanes_after, places_fit}
use Rattle.literal_fingerprints.proofs.lanes.after_first.Goals as goal

pub swizzle : goal.swizzle
swizzle c = places_fit c.args.lanes c.requires

pub returns : goal.returns
returns c = lanes_after c.args.lanes c.requires c.args.all c.fits-all.0
