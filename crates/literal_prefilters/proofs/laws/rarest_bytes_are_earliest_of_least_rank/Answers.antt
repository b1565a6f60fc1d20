use Rattle.literal_prefilters.proofs.lemmas.RarestByte.{rarest_is}
use Rattle.literal_prefilters.proofs.laws.rarest_bytes_are_earliest_of_least_rank.Goals as goal

pub returns : goal.returns
returns c = rarest_is
