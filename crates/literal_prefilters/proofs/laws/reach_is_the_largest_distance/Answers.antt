use Rattle.literal_prefilters.proofs.lemmas.FurthestDistance.{distance-le-reach_of, reach_of-reached}
use Rattle.literal_prefilters.proofs.laws.reach_is_the_largest_distance.Goals as goal

pub returns-clause-bound : goal.returns-clause-bound
returns-clause-bound c = distance-le-reach_of

pub returns-clause-reached : goal.returns-clause-reached
returns-clause-reached c = reach_of-reached
