use Rattle.std.proofs.Common.{arith}
use Rattle.std.proofs.lemmas.Bool.{false≢true}
use Rattle.std.proofs.lemmas.List.{length-map}
use Rattle.literal_rows.proofs.lemmas.Prefixes.{IsUpTo, step_back, word_at}
use Rattle.literal_rows.proofs.prefixes.last_prefix.Goals as goal

pub loop-last-preserved : goal.loop-last-preserved
loop-last-preserved c = grind (arith, IsUpTo, false≢true, length-map, step_back, word_at)
