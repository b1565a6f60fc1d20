use Rattle.literal_c.proofs.lemmas.Pages.{greedy, joined}
use Rattle.literal_c.proofs.laws.pages_are_the_greedy_list.Goals as goal

pub returns-clause-joined : goal.returns-clause-joined
returns-clause-joined c = λ query ignore_case haystack end from next last first second a b.
    joined query ignore_case haystack end from next last first second a b

pub returns-clause-greedy : goal.returns-clause-greedy
returns-clause-greedy c = λ query ignore_case haystack from next all a none.
    greedy query ignore_case haystack from next all a none
