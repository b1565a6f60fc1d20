use Rattle.literal_prefilters.proofs.lemmas.RareSetSteps.{is_rare_byte-push}
use Rattle.literal_prefilters.proofs.laws.rare_sets_come_pattern_by_pattern.Goals as goal

pub returns-clause-one_more : goal.returns-clause-one_more
returns-clause-one_more c = is_rare_byte-push
