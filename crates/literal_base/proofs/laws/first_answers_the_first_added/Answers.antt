use Rattle.literal_base.proofs.lemmas.Ties.{first_added}
use Rattle.literal_base.proofs.laws.first_answers_the_first_added.Goals as goal

pub returns : goal.returns
returns c = first_added
