use Rattle.std.proofs.Common.{◌≡◌, ◌+◌, ◌-◌, ◌*◌, ◌≤◌}
use Rattle.literal_occurrences.specs.Inside.NextEnd.{HasComeTo}
use Rattle.literal_occurrences.specs.declared.scan.TheConstants.{LONGEST}
use Rattle.literal_occurrences.proofs.ends.next_end.Given as goal

abbrev pub invariant-loop-rest : goal.invariant-loop-rest
invariant-loop-rest l = record {
  after : l.fn.span.start ≤ l.start;
  inside : l.start ≤ l.fn.span.end;
  short : l.near ≤ 6 * LONGEST;
  far : l.nearest ≤ l.near;
  comes : HasComeTo l.table l.prints l.haystack l.fn.from l.fn.span (record { row = l.from; end = l.start });
  others : l.tally ≡ record l.fn.tally { scanned = l.tally.scanned };
  least : l.fn.tally.scanned + l.start ≤ l.tally.scanned + l.fn.span.start;
  most : l.tally.scanned + 3 * l.fn.span.start ≤ l.fn.tally.scanned + 3 * l.start;
}

abbrev pub decreases-loop-rest : goal.decreases-loop-rest
decreases-loop-rest l = l.end - l.start
