use Rattle.std.proofs.Common.{◌≡◌, ◌+◌, ◌≤◌, ◌-◌, length}
use Rattle.literal_base.specs.Occurs.{between}
use Rattle.literal_leftmost.specs.Inside.Backward.{AreMarked, ForBackward, IsPlaced, NoneFrom}
use Rattle.literal_leftmost.specs.SearchValue.{ScansThrice, looked_by}
use Rattle.literal_leftmost.proofs.backward.Backward.next_match.Given as goal

abbrev pub invariant-loop-from : goal.invariant-loop-from
invariant-loop-from l = record {
  after : l.fn.at ≤ l.from;
  placed : IsPlaced l.fn.self.table.longest l.fn.span l.from l.marks;
  marked : ForBackward l.fn.self (λ tables. AreMarked tables l.fn.haystack l.fn.span l.fn.at l.fn.numbers
      l.fn.marks → AreMarked tables l.fn.haystack l.fn.span l.from l.numbers l.marks);
  none : ForBackward l.fn.self (λ tables. AreMarked tables l.fn.haystack l.fn.span l.fn.at l.fn.numbers
      l.fn.marks → NoneFrom tables l.fn.haystack l.fn.span.end l.fn.at l.from);
  further : l.fn.marks.known ≤ l.marks.known;
  scanned : ScansThrice (between l.fn.marks.known l.marks.known) l.fn.tally l.tally;
  least : l.fn.tally.scanned + looked_by l.fn.self.table.longest l.fn.span l.marks.known
      ≤ l.tally.scanned + looked_by l.fn.self.table.longest l.fn.span l.fn.marks.known;
  long : length l.numbers ≡ length l.fn.numbers;
}

abbrev pub decreases-loop-from : goal.decreases-loop-from
decreases-loop-from l = l.fn.span.end - l.from
