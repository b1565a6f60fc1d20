use Rattle.std.proofs.Common.{arith}
use Rattle.literal_occurrences.proofs.lemmas.Count.{ends_after, nothing, whole}
use Rattle.literal_occurrences.proofs.lemmas.NextEnd.{stands_first}
use Rattle.literal_occurrences.proofs.prepared_overlapping.LentTables.count_in.Goals as goal

pub loop-counted-init : goal.loop-counted-init
loop-counted-init c = grind (arith, nothing, stands_first)

pub returns-clause-prepared : goal.returns-clause-prepared
returns-clause-prepared c = λ search are. grind (arith, ends_after, whole)
