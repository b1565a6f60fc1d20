use Rattle.std.proofs.Common.{◌≢◌, ◌-◌, ◌<◌, ◌≤◌, ℕ, get_or, length}
use Rattle.litscan.proofs.passed.first_end.Given as goal

abbrev pub invariant-loop-at : goal.invariant-loop-at
invariant-loop-at l = record {
  behind : l.from ≤ l.at;
  inside : l.at ≤ length l.bytes;
  none : (k : ℕ) → l.from ≤ k → k < l.at → get_or l.bytes k 0 ≢ l.line_end;
}

abbrev pub decreases-loop-at : goal.decreases-loop-at
decreases-loop-at l = length l.bytes - l.at
