use Rattle.literal_base.proofs.lemmas.Exists.{greedy_exists_lem}
use Rattle.literal_base.proofs.laws.greedy_exists.Goals as goal

pub returns : goal.returns
returns c = greedy_exists_lem
