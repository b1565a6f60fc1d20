use Rattle.literal_prefilters.proofs.lemmas.FurthestDistance.{reach_of-le}
use Rattle.literal_prefilters.proofs.prefilter.byte_table.ByteTable.count.Goals as goal

pub returns-clause-near : goal.returns-clause-near
returns-clause-near c = rw (← c.self.view_is) (reach_of-le 254 c.self.inside.distances c.self.invariant.near)
