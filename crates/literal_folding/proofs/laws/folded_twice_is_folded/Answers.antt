use Rattle.literal_folding.proofs.lemmas.Texts.{folded-twice}
use Rattle.literal_folding.proofs.laws.folded_twice_is_folded.Goals as goal

pub returns : goal.returns
returns c = folded-twice
