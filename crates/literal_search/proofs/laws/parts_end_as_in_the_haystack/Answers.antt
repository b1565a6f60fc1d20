use Rattle.std.proofs.Common.{arith}
use Rattle.literal_occurrences.proofs.lemmas.Automaton.{all_in_haystack, in_haystack, in_part}
use Rattle.literal_search.proofs.laws.parts_end_as_in_the_haystack.Goals as goal

pub returns-clause-one : goal.returns-clause-one
returns-clause-one c = λ patterns ignore_case haystack from at i ordered inside. grind (arith, in_haystack, in_part)

pub returns-clause-all : goal.returns-clause-all
returns-clause-all c = λ patterns ignore_case haystack from at all ordered inside.
    all_in_haystack patterns ignore_case haystack from at ordered inside all
