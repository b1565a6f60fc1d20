use Rattle.std.proofs.Common.{arith}
use Rattle.std.proofs.lemmas.Bool.{eqb-true}
use Rattle.literal_rows.proofs.array.is_checked.Goals as goal

pub returns : goal.returns
returns c = grind (arith, eqb-true)
