use Rattle.literal_folding.proofs.lemmas.Texts.{folded-ascii}
use Rattle.literal_folding.proofs.laws.ascii_is_folded_as_ascii.Goals as goal

pub returns : goal.returns
returns c = folded-ascii
