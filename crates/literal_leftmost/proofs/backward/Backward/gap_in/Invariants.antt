use Rattle.std.proofs.Common.{◌≡◌, ◌+◌, ◌≤◌}
use Rattle.literal_leftmost.proofs.backward.Backward.gap_in.Given as goal

abbrev pub invariant-loop-at : goal.invariant-loop-at
invariant-loop-at l = record {
  after : l.fn.span.start ≤ l.at;
  others : l.tally ≡ record l.fn.tally { scanned = l.tally.scanned };
  counted : l.tally.scanned + l.fn.span.start ≡ l.fn.tally.scanned + l.at;
}
