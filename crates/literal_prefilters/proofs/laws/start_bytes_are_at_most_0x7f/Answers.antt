use Rattle.literal_prefilters.specs.Tables.{is_start_byte}
use Rattle.literal_prefilters.proofs.lemmas.TableOf.{if_low_none, if_low_some}
use Rattle.literal_prefilters.proofs.laws.start_bytes_are_at_most_0x7f.Goals as goal

pub returns-clause-none : goal.returns-clause-none
returns-clause-none c = λ ignore_case patterns. if_low_none (is_start_byte ignore_case patterns)

pub returns-clause-otherwise : goal.returns-clause-otherwise
returns-clause-otherwise c = λ ignore_case patterns. if_low_some (is_start_byte ignore_case patterns)
