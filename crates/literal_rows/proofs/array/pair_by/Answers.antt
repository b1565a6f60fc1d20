use Rattle.std.proofs.Common.{arith}
use Rattle.std.proofs.lemmas.Bool.{eq-eqb, ne_eqb}
use Rattle.literal_rows.proofs.array.pair_by.Goals as goal

pub returns-then-bytes-eq0 : goal.returns-then-bytes-eq0
returns-then-bytes-eq0 c = grind (arith, eq-eqb)

pub returns : goal.returns
returns c = grind (arith, ne_eqb)
