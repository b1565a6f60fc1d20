use Rattle.literal_base.proofs.lemmas.Met.{ends_within, meets}
use Rattle.literal_base.proofs.laws.matches_meet_all_that_occurs.Goals as goal

pub returns-clause-meets : goal.returns-clause-meets
returns-clause-meets c = λ query ignore_case haystack all some greedy i at o.
    meets query ignore_case haystack 0 all i at some greedy o

pub returns-clause-within : goal.returns-clause-within
returns-clause-within c = ends_within
