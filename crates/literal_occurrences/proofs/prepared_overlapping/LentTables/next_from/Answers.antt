use Rattle.std.proofs.Common.{arith}
use Rattle.literal_occurrences.proofs.lemmas.Position.{next_moved}
use Rattle.literal_occurrences.proofs.prepared_overlapping.LentTables.next_from.Goals as goal

pub returns-clause-prepared : goal.returns-clause-prepared
returns-clause-prepared c = λ search are position.
    let next = rw c.in-Some.is at (c.in_ok-here.ensures.prepared search are position) in
    let by = c.in_ok-first_of.ensures.prepared search are next.stands next.more in
    grind (arith, by, next, next_moved)
