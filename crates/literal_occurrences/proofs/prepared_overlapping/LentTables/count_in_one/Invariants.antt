use Rattle.std.proofs.Common.{◌≡◌, ◌+◌, ◌*◌, ◌≤◌}
use Rattle.literal_occurrences.specs.Inside.Count.{HasCounted, IsWalking}
use Rattle.literal_occurrences.specs.Inside.LentTables.{AreFor, tables_by}
use Rattle.literal_occurrences.specs.Overlapping.{OverlappingValue}
use Rattle.literal_occurrences.proofs.prepared_overlapping.LentTables.count_in_one.Given as goal

abbrev pub invariant-loop-end : goal.invariant-loop-end
invariant-loop-end l = record {
  walking : IsWalking l.fn.span l.counted;
  counts : (search : OverlappingValue) → AreFor search l.fn.self
      → HasCounted (tables_by search l.fn.self) l.fn.haystack l.fn.span l.fn.from
      → HasCounted (tables_by search l.fn.self) l.fn.haystack l.fn.span l.counted;
  on : l.fn.from.at + l._end ≤ l.counted.at;
  tallied : l.tally ≡ record l.fn.tally { scanned = l.tally.scanned };
  least : l.fn.tally.scanned + l.counted.at ≤ l.tally.scanned + l.fn.from.at;
  most : l.tally.scanned + 3 * l.fn.from.at ≤ l.fn.tally.scanned + 3 * l.counted.at;
}
