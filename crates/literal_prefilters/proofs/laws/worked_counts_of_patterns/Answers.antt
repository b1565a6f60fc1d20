use Rattle.std.proofs.Common.{refl}
use Rattle.literal_base.specs.Bytes.{by_byte}
use Rattle.literal_base.specs.Rank.{rank_of}
use Rattle.literal_prefilters.proofs.laws.worked_counts_of_patterns.Goals as goal

pub returns-clause-words : goal.returns-clause-words
unfolding by_byte rank_of
returns-clause-words c = (refl, refl)

pub returns-clause-in_either_case : goal.returns-clause-in_either_case
unfolding by_byte rank_of
returns-clause-in_either_case c = (refl, refl)

pub returns-clause-lockjaw : goal.returns-clause-lockjaw
unfolding by_byte rank_of
returns-clause-lockjaw c = (refl, refl)

pub returns-clause-lockjaw_in_either_case : goal.returns-clause-lockjaw_in_either_case
unfolding by_byte rank_of
returns-clause-lockjaw_in_either_case c = (refl, refl)
