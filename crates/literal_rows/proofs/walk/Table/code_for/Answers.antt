use Rattle.std.proofs.Common.{arith}
use Rattle.std.proofs.lemmas.List.{get_or-drop, get_or-take}
use Rattle.literal_rows.proofs.lemmas.Packed.{unpacked_at}
use Rattle.literal_rows.proofs.lemmas.Rows.{rows_long}
use Rattle.literal_rows.proofs.walk.Table.code_for.Goals as goal

pub returns : goal.returns
returns c = λ are below.
    grind (arith, get_or-drop, get_or-take, rows_long, unpacked_at)
