use Rattle.literal_packed.proofs.lemmas.Iterations.{IsUnderWay}
use Rattle.literal_packed.proofs.laws.iteration_is_bounded.Given as goal

abbrev pub invariant-loop : goal.invariant-loop
invariant-loop l = IsUnderWay l.searcher l.haystack l.matches
