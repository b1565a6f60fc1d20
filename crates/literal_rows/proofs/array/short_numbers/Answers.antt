use Rattle.std.proofs.Common.{arith}
use Rattle.std.proofs.lemmas.Bool.{ne_eqb}
use Rattle.literal_rows.proofs.array.short_numbers.Goals as goal

pub returns-in-Some : goal.returns-in-Some
returns-in-Some c = grind (arith, ne_eqb)
