use Rattle.literal_base.proofs.lemmas.Callers.{same_ranges}
use Rattle.literal_base.proofs.laws.a_class_is_in_the_same_ranges.Goals as goal

pub returns : goal.returns
returns c = same_ranges
