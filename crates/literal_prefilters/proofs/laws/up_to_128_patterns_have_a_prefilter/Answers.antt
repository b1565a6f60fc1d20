use Rattle.literal_prefilters.proofs.lemmas.Choice.{pick_some}
use Rattle.literal_prefilters.proofs.laws.up_to_128_patterns_have_a_prefilter.Goals as goal

pub returns : goal.returns
returns c = pick_some
