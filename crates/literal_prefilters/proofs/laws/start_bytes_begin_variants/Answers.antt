use Rattle.literal_prefilters.proofs.lemmas.Stands.{starts_variants}
use Rattle.literal_prefilters.proofs.laws.start_bytes_begin_variants.Goals as goal

pub returns : goal.returns
returns c = starts_variants
