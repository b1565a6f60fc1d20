use Rattle.std.proofs.Common.{◌≡◌, ◌⊎◌, ◌-◌, ◌<◌, ◌≤◌, ℕ, List, drop, get_or, length}
use Rattle.litscan.proofs.lemmas.Whole.{Makes}
use Rattle.litscan.proofs.passed.start_of_last.Given as goal

-- so many lines are behind the place, where a line begins
abbrev pub invariant-loop : goal.invariant-loop
invariant-loop l = record {
  back : List (List ℕ);
  makes : Makes l.line_end (drop l.start l.bytes) back;
  many : length back ≡ l.counter;
  inside : l.start ≤ length l.bytes;
  feed : (l.start ≡ 0) ⊎ ((0 < l.start) × (get_or l.bytes (l.start - 1) 0 ≡ l.line_end));
}
