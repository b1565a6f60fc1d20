use Rattle.std.proofs.Common.{◌<◌, ◌^◌, ◌+◌}
use Rattle.litscan.proofs.input.digits_of.Given as goal

-- the digits so far and the rest are few enough for the count to fit
abbrev pub invariant-loop-rest : goal.invariant-loop-rest
invariant-loop-rest l = l.digits + l.rest < 2 ^ 64

abbrev pub decreases-loop-rest : goal.decreases-loop-rest
decreases-loop-rest l = l.rest
