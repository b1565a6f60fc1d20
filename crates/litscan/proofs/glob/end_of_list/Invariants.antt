use Rattle.std.proofs.Common.{◌-◌, length}
use Rattle.litscan.proofs.glob.end_of_list.Given as goal

abbrev pub decreases-loop-at : goal.decreases-loop-at
decreases-loop-at l = length l.list - l.at
