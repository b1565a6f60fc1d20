use Rattle.std.proofs.Common.{◌≡◌, ◌+◌, length}
use Rattle.litscan.proofs.glob.fits.Given as goal

abbrev pub invariant-loop-piece : goal.invariant-loop-piece
invariant-loop-piece l = length l.ends.items ≡ length l.name + 1

abbrev pub decreases-loop-piece : goal.decreases-loop-piece
decreases-loop-piece l = length l.rest
