use Rattle.literal_packed.proofs.lemmas.Limits.{builds_if, builds_only_if}
use Rattle.literal_packed.proofs.laws.lists_up_to_the_limit_build.Goals as goal

pub returns-clause-searcher : goal.returns-clause-searcher
returns-clause-searcher c = builds_if

pub returns-clause-no_others : goal.returns-clause-no_others
returns-clause-no_others c = builds_only_if
