use Rattle.std.proofs.Common.{◌≡◌, ◌-◌, ◌<◌, ◌≤◌, ℕ, length, true}
use Rattle.litscan.specs.Asked.{is_behind_word}
use Rattle.litscan.proofs.asked.first_start.Given as goal

abbrev pub invariant-loop-at : goal.invariant-loop-at
invariant-loop-at l = record {
  inside : (l.from ≤ l.at) × (l.at ≤ length l.line);
  passed : (k : ℕ) → l.from ≤ k → k < l.at → is_behind_word l.line k ≡ true;
}

abbrev pub decreases-loop-at : goal.decreases-loop-at
decreases-loop-at l = length l.line - l.at
