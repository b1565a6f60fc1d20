use Rattle.literal_prefilters.proofs.lemmas.Callers.{first_is, is_first_from}
use Rattle.literal_prefilters.proofs.laws.first_is_the_least_place.Goals as goal

pub returns : goal.returns
returns c table haystack span place valid =
    (is_first_from table haystack span valid place, first_is table haystack span valid place)
