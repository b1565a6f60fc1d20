use Rattle.literal_search.specs.Inside.Overlapping.{overlapping_of}
use Rattle.literal_search.proofs.overlapping.Overlapping.earliest_end_counted.Goals as goal

pub unreachable-requires : goal.unreachable-requires
unreachable-requires c = c.in-Err.ensures.prepared (overlapping_of c.self.inside.parts) c.lent.ensures.is_for
