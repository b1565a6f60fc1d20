use Rattle.literal_prefilters.proofs.lemmas.Stands.{is_largest_offset}
use Rattle.literal_prefilters.proofs.laws.distances_are_the_largest_offsets.Goals as goal

pub returns : goal.returns
returns c = is_largest_offset
