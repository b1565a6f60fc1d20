use Rattle.literal_base.proofs.lemmas.Callers.{share_a_class}
use Rattle.literal_base.proofs.laws.neighbours_share_a_class.Goals as goal

pub returns : goal.returns
returns c = share_a_class
