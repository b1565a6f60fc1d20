use Rattle.std.proofs.Common.{◌≡◌, ◌<◌, ◌≤◌, ℕ, true}
use Rattle.litscan.specs.Asked.{is_before_word}
use Rattle.litscan.proofs.asked.last_end.Given as goal

abbrev pub invariant-loop-at : goal.invariant-loop-at
invariant-loop-at l = record {
  inside : (l.start ≤ l.at) × (l.at ≤ l.end);
  passed : (k : ℕ) → l.at < k → k ≤ l.end → is_before_word l.line k ≡ true;
}

abbrev pub decreases-loop-at : goal.decreases-loop-at
decreases-loop-at l = l.at
