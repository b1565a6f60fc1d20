use Rattle.std.proofs.Common.{arith}
use Rattle.literal_search.proofs.lemmas.Replaced.{length_behind, same_behind}
use Rattle.literal_search.proofs.laws.replacing_changes_the_matches_alone.Goals as goal

pub returns-clause-same : goal.returns-clause-same
returns-clause-same c = λ query haystack all. same_behind query haystack 0 all

pub returns-clause-length : goal.returns-clause-length
returns-clause-length c = grind (arith, length_behind)
