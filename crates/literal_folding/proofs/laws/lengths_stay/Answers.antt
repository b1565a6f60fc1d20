use Rattle.literal_folding.proofs.lemmas.Texts.{length-folded}
use Rattle.literal_folding.proofs.laws.lengths_stay.Goals as goal

pub returns : goal.returns
returns c = length-folded
