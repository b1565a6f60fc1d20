use Rattle.literal_packed.proofs.lemmas.Ties.{Decides-is_better}
use Rattle.literal_packed.proofs.laws.better_is_tested.Goals as goal

pub returns : goal.returns
returns c = λ kind patterns i j. Decides-is_better kind patterns i j
