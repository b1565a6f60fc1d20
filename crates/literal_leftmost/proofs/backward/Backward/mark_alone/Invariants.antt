use Rattle.std.proofs.Common.{◌≡◌, ◌+◌, ◌-◌, ◌<◌, ◌≤◌, length, min}
use Rattle.literal_leftmost.specs.Inside.Backward.{AreMarks, ForBackward}
use Rattle.literal_leftmost.specs.Inside.Leftmost.{IsLane}
use Rattle.literal_leftmost.proofs.backward.Backward.mark_alone.Given as goal

abbrev pub invariant-loop-at : goal.invariant-loop-at
invariant-loop-at l = record {
  after : l.fn.block.start ≤ l.at;
  inside : l.at ≤ l.fn.block.end;
  row : l.row < l.fn.limit;
  long : length l.numbers ≡ length l.fn.numbers;
  lane : ForBackward l.fn.self (λ tables. IsLane tables l.fn.haystack l.fn.span l.fn.block.end l.at l.row);
  marks : ForBackward l.fn.self (λ tables. AreMarks tables l.fn.haystack l.fn.span.end l.numbers l.fn.block.start l.at
      l.fn.block.end);
  others : l.tally ≡ record l.fn.tally { scanned = l.tally.scanned };
  scanned : l.tally.scanned + l.at
      ≡ l.fn.tally.scanned + min (l.fn.block.end + (l.fn.self.table.longest - 1)) l.fn.span.end;
}
