use Rattle.literal_packed.proofs.lemmas.MinimumLen.{minimum_len_of-le, minimum_len_of-reached}
use Rattle.literal_packed.proofs.laws.minimum_len_is_the_least_length.Goals as goal

pub returns-clause-bound : goal.returns-clause-bound
returns-clause-bound c = minimum_len_of-le

pub returns-clause-reached : goal.returns-clause-reached
returns-clause-reached c = minimum_len_of-reached
