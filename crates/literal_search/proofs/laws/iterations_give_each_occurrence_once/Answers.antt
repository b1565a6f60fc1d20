use Rattle.literal_occurrences.proofs.lemmas.Overlapping.{overlapping_from_yields}
use Rattle.literal_search.proofs.laws.iterations_give_each_occurrence_once.Goals as goal

pub returns : goal.returns
returns c = λ search haystack span first last ended all.
    overlapping_from_yields search haystack span first all last ended
