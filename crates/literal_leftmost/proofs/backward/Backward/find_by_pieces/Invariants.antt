use Rattle.std.proofs.Common.{◌≡◌, ◌+◌, ◌-◌, ◌*◌, ◌≤◌}
use Rattle.literal_leftmost.specs.Inside.Backward.{ForBackward, NoneFrom}
use Rattle.literal_leftmost.proofs.backward.Backward.find_by_pieces.Given as goal

abbrev pub invariant-loop-at : goal.invariant-loop-at
invariant-loop-at l = record {
  after : l.span.start ≤ l.at;
  inside : l.at ≤ l.span.end;
  none : ForBackward l.fn.self (λ tables. NoneFrom tables l.fn.haystack l.span.end l.span.start l.at);
  others : l.tally ≡ record l.fn.tally { scanned = l.tally.scanned };
  least : l.fn.tally.scanned + l.at ≤ l.tally.scanned + l.span.start;
  most : l.tally.scanned + 3 * l.span.start ≤ l.fn.tally.scanned + 3 * l.at;
}

abbrev pub decreases-loop-at : goal.decreases-loop-at
decreases-loop-at l = l.end - l.at
