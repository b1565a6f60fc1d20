use Rattle.std.proofs.Common.{◌≤◌, length}
use Rattle.litscan.proofs.walk.without_slashes.Given as goal

abbrev pub invariant-loop-end : goal.invariant-loop-end
invariant-loop-end l = l.end ≤ length l.glob

abbrev pub decreases-loop-end : goal.decreases-loop-end
decreases-loop-end l = l.end
