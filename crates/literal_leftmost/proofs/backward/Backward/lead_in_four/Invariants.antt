use Rattle.std.proofs.Common.{◌≡◌, ◌+◌, ◌-◌, ◌*◌, ◌≤◌}
use Rattle.literal_base.specs.Occurs.{between}
use Rattle.literal_leftmost.specs.Inside.Backward.{ForBackward}
use Rattle.literal_leftmost.specs.Inside.Leftmost.{AreLanes, HaveRows, IsFirstStart, IsLane, LiesInPart}
use Rattle.literal_leftmost.proofs.backward.Backward.lead_in_four.Given as goal

abbrev pub invariant-loop-step : goal.invariant-loop-step
invariant-loop-step l = record {
  before : l.step ≤ l.fn.block.lead;
  rows : HaveRows l.fn.limit (record {
    first = l.first;
    second = l.second;
    third = l.third;
    fourth = l.fourth;
  });
  lanes : ForBackward l.fn.self (λ tables.
      AreLanes tables l.fn.haystack l.fn.span l.fn.at l.fn.block.part (l.fn.block.part + l.step) (record {
        first = l.first;
        second = l.second;
        third = l.third;
        fourth = l.fourth;
      }));
  last : ForBackward l.fn.self (λ tables. l.fn.at + 4 * l.fn.block.part + l.fn.block.lead ≡ l.fn.span.end
      → IsLane tables l.fn.haystack l.fn.span l.fn.span.end (l.fn.at + 4 * l.fn.block.part + l.step) l.fourth);
  behind : ForBackward l.fn.self (λ tables. l.fn.at + 4 * l.fn.block.part + l.fn.block.lead ≡ l.fn.span.end
      → IsFirstStart tables l.fn.haystack l.fn.span.end
      (between (l.fn.at + 4 * l.fn.block.part + l.step) l.fn.span.end) l.behind);
  lies : LiesInPart (l.fn.at + 4 * l.fn.block.part + l.step) (l.fn.at + 4 * l.fn.block.part + l.fn.block.lead)
      l.behind;
  counted : l.tally ≡ record l.fn.tally { scanned = l.fn.tally.scanned + 4 * (l.fn.block.lead - l.step) };
}
