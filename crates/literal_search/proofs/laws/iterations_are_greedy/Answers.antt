use Rattle.literal_search.proofs.lemmas.Callers.{greedy_from_yields}
use Rattle.literal_search.proofs.laws.iterations_are_greedy.Goals as goal

pub returns : goal.returns
returns c = λ first last ended all run nothing. greedy_from_yields first all last ended run nothing
