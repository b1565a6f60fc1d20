use Rattle.literal_prefilters.proofs.lemmas.Callers.{none-is-free}
use Rattle.literal_prefilters.proofs.laws.nothing_is_proposed_without_a_byte.Goals as goal

pub returns : goal.returns
returns c = none-is-free
