use Rattle.literal_base.proofs.lemmas.Ties.{longest_first_of_equal}
use Rattle.literal_base.proofs.laws.longest_answers_the_first_of_equal_patterns.Goals as goal

pub returns : goal.returns
returns c = longest_first_of_equal
