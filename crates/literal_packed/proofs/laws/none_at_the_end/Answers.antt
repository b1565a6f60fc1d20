use Rattle.literal_packed.proofs.lemmas.Iterations.{none_at_end}
use Rattle.literal_packed.proofs.laws.none_at_the_end.Goals as goal

pub returns : goal.returns
returns c = none_at_end
