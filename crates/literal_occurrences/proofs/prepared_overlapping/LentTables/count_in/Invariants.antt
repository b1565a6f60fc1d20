use Rattle.std.proofs.Common.{◌≡◌, ◌+◌, ◌-◌, ◌*◌, ◌≤◌}
use Rattle.literal_occurrences.specs.Inside.Count.{HasCounted, IsWalking}
use Rattle.literal_occurrences.specs.Inside.LentTables.{AreFor, tables_by}
use Rattle.literal_occurrences.specs.Overlapping.{OverlappingValue}
use Rattle.literal_occurrences.proofs.prepared_overlapping.LentTables.count_in.Given as goal

abbrev pub invariant-loop-counted : goal.invariant-loop-counted
invariant-loop-counted l = record {
  walking : IsWalking l.fn.span l.counted;
  counts : (search : OverlappingValue) → AreFor search l.fn.self
      → HasCounted (tables_by search l.fn.self) l.fn.haystack l.fn.span l.counted;
  tallied : l.tally ≡ record l.fn.tally { scanned = l.tally.scanned };
  least : l.fn.tally.scanned + l.counted.at ≤ l.tally.scanned + l.fn.span.start;
  most : l.tally.scanned + 3 * l.fn.span.start ≤ l.fn.tally.scanned + 3 * l.counted.at;
}

abbrev pub decreases-loop-counted : goal.decreases-loop-counted
decreases-loop-counted l = l.fn.span.end - l.counted.at
