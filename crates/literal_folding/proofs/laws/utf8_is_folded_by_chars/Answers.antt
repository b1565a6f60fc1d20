use Rattle.literal_folding.proofs.lemmas.Texts.{folded-chars}
use Rattle.literal_folding.proofs.laws.utf8_is_folded_by_chars.Goals as goal

pub returns : goal.returns
returns c = folded-chars
