use Rattle.literal_packed.proofs.lemmas.Spending.{next_spends}
use Rattle.literal_packed.proofs.laws.next_is_bounded.Goals as goal

pub returns : goal.returns
returns c = next_spends
