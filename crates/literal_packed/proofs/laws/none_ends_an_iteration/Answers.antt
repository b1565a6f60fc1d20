use Rattle.literal_packed.proofs.lemmas.Iterations.{at_end_after}
use Rattle.literal_packed.proofs.laws.none_ends_an_iteration.Goals as goal

pub returns : goal.returns
returns c = at_end_after
