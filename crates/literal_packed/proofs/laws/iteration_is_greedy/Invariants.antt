use Rattle.literal_packed.proofs.lemmas.Iterations.{IsGathering}
use Rattle.literal_packed.proofs.laws.iteration_is_greedy.Given as goal

abbrev pub invariant-loop-found : goal.invariant-loop-found
invariant-loop-found l = IsGathering l.searcher l.haystack l.all.items l.matches
