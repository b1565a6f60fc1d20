use Rattle.std.proofs.Common.{◌%◌, ◌^◌, ap}
use Rattle.literal_packed.proofs.lemmas.SumByIndex.{weighted_by_index}
use Rattle.literal_packed.proofs.laws.sum_is_by_index.Goals as goal

pub returns : goal.returns
returns c = λ w. ap (λ n. n % 2 ^ 64) (weighted_by_index w)
