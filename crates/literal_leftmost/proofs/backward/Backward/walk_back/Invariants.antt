use Rattle.std.proofs.Common.{◌≡◌, ◌+◌, ◌<◌, ◌≤◌}
use Rattle.literal_leftmost.specs.Inside.Backward.{ForBackward}
use Rattle.literal_leftmost.specs.Inside.Leftmost.{IsLane}
use Rattle.literal_leftmost.proofs.backward.Backward.walk_back.Given as goal

abbrev pub invariant-loop-at : goal.invariant-loop-at
invariant-loop-at l = record {
  after : l.fn.end ≤ l.at;
  inside : l.at ≤ l.from;
  row : l.row < l.fn.limit;
  lane : ForBackward l.fn.self (λ tables. IsLane tables l.fn.haystack l.fn.span l.fn.end l.at l.row);
  others : l.tally ≡ record l.fn.tally { scanned = l.tally.scanned };
  scanned : l.tally.scanned + l.at ≡ l.fn.tally.scanned + l.from;
}
