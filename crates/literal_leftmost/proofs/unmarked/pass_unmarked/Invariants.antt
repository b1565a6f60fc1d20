use Rattle.std.proofs.Common.{ℕ, ◌-◌, ◌<◌, ◌≤◌, ◌^◌, slice_index}
use Rattle.literal_leftmost.proofs.unmarked.pass_unmarked.Given as goal

abbrev pub invariant-loop-at : goal.invariant-loop-at
invariant-loop-at l = record {
  after : l.fn.from ≤ l.at;
  before : l.at ≤ l.fn.upto;
  none : (at : ℕ) → l.fn.from ≤ at → at < l.at → slice_index l.fn.numbers (at - l.fn.first) < 2 ^ 31;
}

abbrev pub decreases-loop-at : goal.decreases-loop-at
decreases-loop-at l = l.fn.upto - l.at
