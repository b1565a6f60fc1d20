use Rattle.literal_search.proofs.overlapping.Overlapping.count_overlapping_counted.Goals as goal

pub unreachable-requires : goal.unreachable-requires
unreachable-requires c = c.in-Err.ensures.prepared _ c.lent.ensures.is_for
