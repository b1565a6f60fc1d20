use Rattle.std.proofs.Common.{refl}
use Rattle.literal_packed.proofs.laws.counts_of_chosen_patterns.Goals as goal

pub returns-clause-equal_sums : goal.returns-clause-equal_sums
returns-clause-equal_sums c = (λ kind. refl, refl, refl)

pub returns-clause-long : goal.returns-clause-long
returns-clause-long c kind = refl
