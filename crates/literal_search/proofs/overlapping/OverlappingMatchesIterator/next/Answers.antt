use Rattle.literal_occurrences.proofs.lemmas.Position.{makes_progress}
use Rattle.literal_search.proofs.overlapping.OverlappingMatchesIterator.next.Goals as goal

pub returns-clause-goes : goal.returns-clause-goes
returns-clause-goes c = makes_progress _ _ _ c.next_counted.ensures.gives
