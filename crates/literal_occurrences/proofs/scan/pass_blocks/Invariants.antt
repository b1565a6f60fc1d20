use Rattle.std.proofs.Common.{◌≡◌, ◌+◌, ◌-◌, ◌*◌, ◌<◌, ◌≤◌, ◌^◌}
use Rattle.literal_occurrences.specs.Inside.Scan.{ForPatterns, NoneBefore}
use Rattle.literal_occurrences.proofs.scan.pass_blocks.Given as goal

abbrev pub invariant-loop-block : goal.invariant-loop-block
invariant-loop-block l = record {
  after : l.fn.span.start ≤ l.at;
  inside : l.at ≤ l.fn.span.end;
  some : 0 < l.block;
  long : 2 * l.table.longest ≤ l.block;
  short : l.block < 2 ^ 20;
  none : ForPatterns l.table (λ patterns ignore_case. NoneBefore patterns ignore_case l.haystack l.fn.span l.at);
  others : l.tally ≡ record l.initial.tally { scanned = l.tally.scanned };
  least : l.initial.tally.scanned + l.at ≤ l.tally.scanned + l.fn.span.start;
  counted : l.tally.scanned + 6 * l.block ≤ l.initial.tally.scanned + 2 * l.fn.near + 3 * (l.at - l.fn.span.start);
}

abbrev pub decreases-loop-block : goal.decreases-loop-block
decreases-loop-block l = l.fn.span.end - l.at
