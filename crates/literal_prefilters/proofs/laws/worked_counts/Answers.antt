use Rattle.std.proofs.Common.{refl}
use Rattle.literal_base.specs.Bytes.{by_byte}
use Rattle.literal_prefilters.proofs.laws.worked_counts.Goals as goal

pub returns-clause-start_table : goal.returns-clause-start_table
unfolding by_byte
returns-clause-start_table c = (refl, refl)

pub returns-clause-rare_table : goal.returns-clause-rare_table
unfolding by_byte
returns-clause-rare_table c = (refl, refl)

pub returns-clause-no_match : goal.returns-clause-no_match
unfolding by_byte
returns-clause-no_match c = (refl, refl)

pub returns-clause-words : goal.returns-clause-words
unfolding by_byte
returns-clause-words c = (refl, refl)

pub returns-clause-every_place : goal.returns-clause-every_place
unfolding by_byte
returns-clause-every_place c = (refl, refl)
