use Rattle.std.proofs.Common.{◌≡◌, ℕ, ◌+◌, ◌<◌, ◌≤◌}
use Rattle.literal_base.specs.Occurs.{between}
use Rattle.literal_leftmost.specs.Inside.Backward.{ForBackward}
use Rattle.literal_leftmost.specs.Inside.Leftmost.{IsFirstStart, IsLane, LiesInPart}
use Rattle.literal_leftmost.proofs.backward.Backward.first_in.Given as goal

abbrev pub invariant-loop-at : goal.invariant-loop-at
invariant-loop-at l = record {
  after : l.fn.part.start ≤ l.at;
  inside : l.at ≤ l.fn.part.end;
  row : l.row < l.fn.limit;
  lane : ForBackward l.fn.self (λ tables. (end : ℕ)
      → IsLane tables l.fn.haystack l.fn.span end l.fn.part.end l.fn.from
      → IsLane tables l.fn.haystack l.fn.span end l.at l.row);
  first : ForBackward l.fn.self (λ tables. (end upto : ℕ) → l.fn.part.end ≤ end
      → IsLane tables l.fn.haystack l.fn.span end l.fn.part.end l.fn.from
      → IsFirstStart tables l.fn.haystack l.fn.span.end (between l.fn.part.end upto) l.fn.behind
      → IsFirstStart tables l.fn.haystack l.fn.span.end (between l.at upto) l.first);
  begun : (upto : ℕ) → l.fn.part.end ≤ upto → LiesInPart l.fn.part.end upto l.fn.behind
      → LiesInPart l.at upto l.first;
  others : l.tally ≡ record l.fn.tally { scanned = l.tally.scanned };
  scanned : l.tally.scanned + l.at ≡ l.fn.tally.scanned + l.fn.part.end;
}
