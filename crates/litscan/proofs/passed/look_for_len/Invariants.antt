use Rattle.std.proofs.Common.{◌≡◌, ◌-◌, ◌≤◌, List, length, take, ℕ}
use Rattle.std.specs.List.{All}
use Rattle.litscan.specs.Inside.Passed.{HasNoMatch}
use Rattle.litscan.proofs.lemmas.Whole.{Makes}
use Rattle.litscan.proofs.passed.look_for_len.Given as goal

-- the lines up to here are too long
abbrev pub invariant-loop-at : goal.invariant-loop-at
invariant-loop-at l = record {
  seen : List (List ℕ);
  makes : Makes l.options.line_end (take l.at l.bytes) seen;
  none : All (HasNoMatch l.search l.options) seen;
  count : l.lines ≡ length seen;
  inside : l.at ≤ length l.bytes;
}

abbrev pub decreases-loop-at : goal.decreases-loop-at
decreases-loop-at l = length l.bytes - l.at
