use Rattle.std.proofs.Common.{length}
use Rattle.test_contracts.proofs.classes.next_after_all.Given as goal

abbrev pub decreases-loop : goal.decreases-loop
decreases-loop l = length l.bytes
