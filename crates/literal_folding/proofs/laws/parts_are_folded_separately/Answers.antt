use Rattle.literal_folding.proofs.lemmas.Texts.{folded-append, none_over}
use Rattle.literal_folding.proofs.laws.parts_are_folded_separately.Goals as goal

pub returns : goal.returns
returns c = record { parts = folded-append; boundary = none_over }
