use Rattle.literal_base.proofs.lemmas.Exists.{leftmost_exists_lem}
use Rattle.literal_base.proofs.laws.leftmost_exists.Goals as goal

pub returns : goal.returns
returns c = leftmost_exists_lem
