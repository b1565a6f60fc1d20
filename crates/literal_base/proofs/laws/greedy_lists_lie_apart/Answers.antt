use Rattle.literal_base.proofs.lemmas.GreedyLists.{greedy_apart}
use Rattle.literal_base.proofs.laws.greedy_lists_lie_apart.Goals as goal

pub returns : goal.returns
returns c = greedy_apart
