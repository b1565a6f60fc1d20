use Rattle.std.proofs.Common.{false}
use Rattle.literal_base.proofs.lemmas.Callers.{get_or-by_byte, length-by_byte}
use Rattle.literal_base.proofs.laws.by_byte_gives_each_value.Goals as goal

pub returns-clause-number : goal.returns-clause-number
returns-clause-number c = λ f b below. get_or-by_byte f b 0 below

pub returns-clause-truth : goal.returns-clause-truth
returns-clause-truth c = λ f b below. get_or-by_byte f b false below

pub returns-clause-numbers : goal.returns-clause-numbers
returns-clause-numbers c = λ f. length-by_byte f

pub returns-clause-truths : goal.returns-clause-truths
returns-clause-truths c = λ f. length-by_byte f
