use Rattle.literal_base.proofs.lemmas.Callers.{class_below_len}
use Rattle.literal_base.proofs.laws.classes_are_below_the_alphabet_len.Goals as goal

pub returns : goal.returns
returns c = class_below_len
