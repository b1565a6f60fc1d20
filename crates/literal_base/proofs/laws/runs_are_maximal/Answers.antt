use Rattle.literal_base.proofs.lemmas.Runs.{runs_maximal}
use Rattle.literal_base.proofs.laws.runs_are_maximal.Goals as goal

pub returns : goal.returns
returns c = runs_maximal
