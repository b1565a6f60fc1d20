use Rattle.literal_base.proofs.lemmas.Runs.{AreRuns_once}
use Rattle.literal_base.proofs.laws.runs_are_unique.Goals as goal

pub returns : goal.returns
returns c = AreRuns_once
