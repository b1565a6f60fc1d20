use Rattle.std.proofs.Common.{◌≡◌, ◌+◌, ◌≤◌, ◌-◌}
use Rattle.literal_leftmost.specs.Inside.Backward.{ForBackward, NoneFrom}
use Rattle.literal_leftmost.specs.Inside.Trail.{AreTrailed, IsFar, led_to, paid_by}
use Rattle.literal_leftmost.proofs.backward.Backward.next_far.Given as goal

abbrev pub invariant-loop-from : goal.invariant-loop-from
invariant-loop-from l = record {
  after : l.fn.at ≤ l.from;
  inside : l.from ≤ l.fn.span.end;
  far : IsFar l.fn.self.table.longest l.fn.span l.from l.trail l.marks;
  trailed : ForBackward l.fn.self (λ tables.
      AreTrailed tables l.fn.haystack l.fn.span l.fn.at l.fn.trail l.fn.marks
      → AreTrailed tables l.fn.haystack l.fn.span l.from l.trail l.marks);
  none : ForBackward l.fn.self (λ tables.
      AreTrailed tables l.fn.haystack l.fn.span l.fn.at l.fn.trail l.fn.marks
      → NoneFrom tables l.fn.haystack l.fn.span.end l.fn.at l.from);
  laid : l.fn.trail.block.end ≤ l.trail.block.end;
  known : l.fn.marks.known ≤ l.marks.known;
  others : l.tally ≡ record l.fn.tally { scanned = l.tally.scanned };
  scanned : l.tally.scanned + paid_by l.fn.self.table.longest l.fn.trail.block.end + l.fn.marks.known
      ≤ l.fn.tally.scanned + paid_by l.fn.self.table.longest l.trail.block.end + l.marks.known;
  least : l.fn.tally.scanned + led_to l.fn.self.table.longest l.fn.span l.trail.block.end
      ≤ l.tally.scanned + led_to l.fn.self.table.longest l.fn.span l.fn.trail.block.end;
}

abbrev pub decreases-loop-from : goal.decreases-loop-from
decreases-loop-from l = l.fn.span.end - l.from
