use Rattle.std.proofs.Common.{◌-◌, ◌≤◌, ℕ, List, length, take}
use Rattle.litscan.specs.Inside.Groups.{PassesOver}
use Rattle.litscan.proofs.lemmas.Whole.{Makes}
use Rattle.litscan.proofs.context.Context.hold_each.Given as goal

-- the lines up to here are passed over
abbrev pub invariant-loop-at : goal.invariant-loop-at
invariant-loop-at l = record {
  seen : List (List ℕ);
  makes : Makes l.options.line_end (take l.at l.bytes) seen;
  over : PassesOver l.options l.fn.self l.self seen;
  inside : l.at ≤ length l.bytes;
}

abbrev pub decreases-loop-at : goal.decreases-loop-at
decreases-loop-at l = length l.bytes - l.at
