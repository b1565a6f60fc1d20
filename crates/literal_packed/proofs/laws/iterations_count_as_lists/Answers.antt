use Rattle.literal_packed.proofs.lemmas.Iterations.{counts_of_run}
use Rattle.literal_packed.proofs.laws.iterations_count_as_lists.Goals as goal

pub returns : goal.returns
returns c = counts_of_run
