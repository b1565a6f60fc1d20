use Rattle.std.proofs.Common.{◌≢◌, ◌<◌, ◌≤◌, ℕ, get_or}
use Rattle.litscan.proofs.passed.last_of_few.Given as goal

abbrev pub invariant-loop-end : goal.invariant-loop-end
invariant-loop-end l = (k : ℕ) → l.end ≤ k → k < l.place → get_or l.bytes k 0 ≢ l.line_end
