use Rattle.std.proofs.Common.{◌∙◌}
use Rattle.literal_packed.proofs.lemmas.Sums.{sum_of-push}
use Rattle.literal_packed.proofs.rabinkarp.Rolling.push.Goals as goal

pub returns-clause-sum : goal.returns-clause-sum
returns-clause-sum c = λ w is. sum_of-push w c.args.byte c.value-self-inside.result (c.value-self-inside.ensures ∙ is)
