use Rattle.std.proofs.Common.{◌≡◌, ◌+◌, ◌*◌, ◌-◌, ◌<◌, length, min}
use Rattle.literal_leftmost.specs.Inside.Backward.{ForBackward}
use Rattle.literal_leftmost.specs.Inside.Leftmost.{IsLane}
use Rattle.literal_leftmost.specs.Inside.Trail.{AreCells}
use Rattle.literal_leftmost.proofs.backward.Backward.leave_trail.Given as goal

abbrev pub invariant-loop-i : goal.invariant-loop-i
invariant-loop-i l = record {
  few : 512 * l.i < l.fn.block.end - l.fn.block.start + 512;
  end : l.end ≡ min (l.fn.block.start + 512 * l.i) l.fn.block.end;
  row : l.row < l.fn.limit;
  long : length l.cells ≡ length l.fn.cells;
  lane : ForBackward l.fn.self (λ tables. IsLane tables l.fn.haystack l.fn.span l.fn.block.end l.end l.row);
  cells : ForBackward l.fn.self (λ tables. AreCells tables l.fn.haystack l.fn.span l.fn.block l.cells
      (l.fn.block.start + 512 * l.i));
  others : l.tally ≡ record l.fn.tally { scanned = l.tally.scanned };
  scanned : l.tally.scanned + l.end
      ≡ l.fn.tally.scanned + min (l.fn.block.end + (l.fn.self.table.longest - 1)) l.fn.span.end;
}
