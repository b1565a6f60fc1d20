use Rattle.std.proofs.Common.{arith}
use Rattle.std.proofs.lemmas.List.{length-map}
use Rattle.literal_rows.proofs.lemmas.States.{too_many_prefixes}
use Rattle.literal_rows.proofs.texts.Texts.has_too_long.Goals as goal

pub returns-then-is_too_long : goal.returns-then-is_too_long
returns-then-is_too_long c = grind (arith, length-map, too_many_prefixes)
