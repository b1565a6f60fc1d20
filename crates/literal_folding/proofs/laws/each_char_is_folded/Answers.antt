use Rattle.literal_folding.proofs.lemmas.Texts.{folded-char, folded-nil, folded-other}
use Rattle.literal_folding.proofs.laws.each_char_is_folded.Goals as goal

pub returns : goal.returns
returns c = record { empty = folded-nil; char = folded-char; other = folded-other }
