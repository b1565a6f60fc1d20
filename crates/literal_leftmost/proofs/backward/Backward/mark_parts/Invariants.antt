use Rattle.std.proofs.Common.{◌≡◌, ◌+◌, ◌-◌, ◌*◌, ◌≤◌, length}
use Rattle.literal_leftmost.specs.Inside.Backward.{ForBackward}
use Rattle.literal_leftmost.specs.Inside.Leftmost.{AreLanes, AreMarksAfter, HaveRows}
use Rattle.literal_leftmost.proofs.backward.Backward.mark_parts.Given as goal

abbrev pub invariant-loop-step : goal.invariant-loop-step
invariant-loop-step l = record {
  before : l.step ≤ l.fn.left;
  long : length l.marks ≡ length l.fn.marks;
  rows : HaveRows l.fn.limit l.now;
  lanes : ForBackward l.fn.self (λ tables. AreLanes tables l.fn.haystack l.fn.span l.fn.at l.fn.part l.fn.left
      l.fn.lanes
      → AreLanes tables l.fn.haystack l.fn.span l.fn.at l.fn.part l.step l.now);
  marks : ForBackward l.fn.self (λ tables. AreLanes tables l.fn.haystack l.fn.span l.fn.at l.fn.part l.fn.left
      l.fn.lanes
      → AreMarksAfter tables l.fn.haystack l.fn.span.end l.fn.marks l.fn.at l.fn.part l.fn.left
      → AreMarksAfter tables l.fn.haystack l.fn.span.end l.marks l.fn.at l.fn.part l.step);
  counted : l.tally ≡ record l.fn.tally { scanned = l.fn.tally.scanned + 4 * (l.fn.left - l.step) };
}
