use Rattle.std.proofs.Common.{◌≡◌, ◌+◌, ◌-◌, ◌*◌, ◌≤◌, length}
use Rattle.literal_leftmost.specs.Inside.Backward.{ForBackward}
use Rattle.literal_leftmost.specs.Inside.Leftmost.{AreLanes, HaveRows, HoldAfter}
use Rattle.literal_leftmost.specs.Inside.Trail.{IsShortCell}
use Rattle.literal_leftmost.proofs.backward.Backward.leave_in_four.Given as goal

abbrev pub invariant-loop-i : goal.invariant-loop-i
invariant-loop-i l = record {
  before : l.i ≤ l.fn.steps;
  long : length l.cells ≡ length l.fn.cells;
  rows : HaveRows l.limit l.lanes;
  lanes : ForBackward l.fn.self (λ tables.
      AreLanes tables l.fn.haystack l.fn.span l.fn.at (128 * l.fn.steps) (128 * l.i) l.lanes);
  cells : ForBackward l.fn.self (λ tables.
      HoldAfter (IsShortCell tables l.fn.haystack l.fn.span l.fn.at) l.cells 0 l.fn.steps l.i);
  others : l.tally ≡ record l.fn.tally { scanned = l.tally.scanned };
  scanned : l.tally.scanned + 512 * l.i
      ≡ l.fn.tally.scanned + 512 * l.fn.steps + 4 * (l.fn.self.table.longest - 1);
}
