use Rattle.std.proofs.Common.{◌≡◌, ◌+◌, ◌-◌, ◌*◌, ◌<◌}
use Rattle.literal_occurrences.specs.Inside.Count.{IsWalk}
use Rattle.literal_occurrences.specs.Inside.LentTables.{AreFor, tables_by}
use Rattle.literal_occurrences.specs.Overlapping.{OverlappingValue}
use Rattle.literal_occurrences.proofs.prepared_overlapping.LentTables.lead_in_three.Given as goal

abbrev pub invariant-loop-step : goal.invariant-loop-step
invariant-loop-step l = record {
  second_within : l.second < l.fn.limit;
  third_within : l.third < l.fn.limit;
  fourth_within : l.fourth < l.fn.limit;
  second : (search : OverlappingValue) → AreFor search l.fn.self
      → IsWalk (tables_by search l.fn.self) l.fn.haystack l.fn.span (l.fn.from.at + l.fn.part)
      (l.fn.from.at + l.fn.part - l.lead + l.step) l.second;
  third : (search : OverlappingValue) → AreFor search l.fn.self
      → IsWalk (tables_by search l.fn.self) l.fn.haystack l.fn.span (l.fn.from.at + 2 * l.fn.part)
      (l.fn.from.at + 2 * l.fn.part - l.lead + l.step) l.third;
  fourth : (search : OverlappingValue) → AreFor search l.fn.self
      → IsWalk (tables_by search l.fn.self) l.fn.haystack l.fn.span (l.fn.from.at + 3 * l.fn.part)
      (l.fn.from.at + 3 * l.fn.part - l.lead + l.step) l.fourth;
  counted : l.tally ≡ record l.fn.tally { scanned = l.fn.tally.scanned + 3 * l.step };
}
