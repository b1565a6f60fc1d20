use Rattle.std.proofs.Common.{◌≡◌, ◌+◌, ◌*◌, ◌-◌, ◌/◌, ◌<◌, ◌≤◌}
use Rattle.literal_leftmost.specs.Inside.Backward.{ForBackward, NoneFrom}
use Rattle.literal_leftmost.specs.Inside.Trail.{AreShortCells}
use Rattle.literal_leftmost.proofs.backward.Backward.mark_four_steps.Given as goal

abbrev pub invariant-loop-at : goal.invariant-loop-at
invariant-loop-at l = record {
  after : l.fn.from ≤ l.at;
  inside : l.at ≤ l.fn.block.end;
  begun : l.at < l.fn.block.end → l.fn.block.start + 512 * l.i ≤ l.at;
  within : l.at < l.fn.block.end → l.at < l.fn.block.start + 512 * l.i + 512;
  few : l.i ≤ l.at;
  counts : l.tally ≡ l.fn.tally;
  none : ForBackward l.fn.self (λ tables. AreShortCells tables l.fn.haystack l.fn.span l.fn.block.start l.fn.cells
      ((l.fn.block.end - l.fn.block.start) / 128)
      → NoneFrom tables l.fn.haystack l.fn.span.end l.fn.from l.at);
}

abbrev pub decreases-loop-at : goal.decreases-loop-at
decreases-loop-at l = l.fn.block.end - l.at
