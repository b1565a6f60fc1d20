use Rattle.std.proofs.Common.{◌≡◌, ◌+◌, ◌-◌, ◌*◌, ◌≤◌, ◌^◌}
use Rattle.literal_occurrences.specs.Inside.Count.{AreAfter, CountFour}
use Rattle.literal_occurrences.specs.Inside.LentTables.{AreFor, tables_by}
use Rattle.literal_leftmost.specs.Inside.Leftmost.{HaveRows}
use Rattle.literal_occurrences.specs.Overlapping.{OverlappingValue}
use Rattle.literal_occurrences.proofs.prepared_overlapping.LentTables.count_parts.Given as goal

abbrev pub invariant-loop-step : goal.invariant-loop-step
invariant-loop-step l = record {
  rows : HaveRows l.fn.limit (record {
    first = l.first;
    second = l.second;
    third = l.third;
    fourth = l.fourth;
  });
  walks : (search : OverlappingValue) → AreFor search l.fn.self
      → AreAfter (tables_by search l.fn.self) l.fn.haystack l.fn.span l.fn.from.at l.fn.part 0 l.fn.lanes
      → AreAfter (tables_by search l.fn.self) l.fn.haystack l.fn.span l.fn.from.at l.fn.part l.step (record {
        first = l.first;
        second = l.second;
        third = l.third;
        fourth = l.fourth;
      })
      × CountFour search l.fn.haystack l.fn.span l.fn.from.at l.fn.part l.step l.fn.from.count l.count;
  few : l.count ≤ l.fn.from.count + 4 * l.step * (2 ^ 64 - 1);
  counted : l.tally ≡ record l.fn.tally { scanned = l.fn.tally.scanned + 4 * l.step };
}
