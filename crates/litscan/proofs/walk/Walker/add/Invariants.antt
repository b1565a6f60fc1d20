use Rattle.std.proofs.Common.{length}
use Rattle.litscan.proofs.walk.Walker.add.Given as goal

abbrev pub decreases-loop-name : goal.decreases-loop-name
decreases-loop-name l = length l.names.items
