use Rattle.std.proofs.Common.{◌≡◌, ◌+◌, ◌-◌, ◌*◌}
use Rattle.literal_leftmost.specs.Inside.Backward.{ForBackward}
use Rattle.literal_leftmost.specs.Inside.Leftmost.{AreLanes, HaveRows, NoneAfter}
use Rattle.literal_leftmost.proofs.backward.Backward.pass_in_four.Given as goal

abbrev pub invariant-loop-step : goal.invariant-loop-step
invariant-loop-step l = record {
  rows : HaveRows l.fn.limit l.now;
  lanes : ForBackward l.fn.self (λ tables. AreLanes tables l.fn.haystack l.fn.span l.fn.at l.fn.part l.fn.part
      l.fn.lanes → AreLanes tables l.fn.haystack l.fn.span l.fn.at l.fn.part (l.fn.part - l.step) l.now);
  none : ForBackward l.fn.self (λ tables. AreLanes tables l.fn.haystack l.fn.span l.fn.at l.fn.part l.fn.part l.fn.lanes
      → NoneAfter tables l.fn.haystack l.fn.span.end l.fn.at l.fn.part (l.fn.part - l.step));
  counted : l.tally ≡ record l.fn.tally { scanned = l.fn.tally.scanned + 4 * l.step };
}
