use Rattle.std.proofs.Common.{◌≡◌, ℕ, ◌+◌, ◌<◌, ◌≤◌, length}
use Rattle.literal_leftmost.specs.Inside.Backward.{AreMarks, ForBackward}
use Rattle.literal_leftmost.specs.Inside.Leftmost.{IsLane}
use Rattle.literal_leftmost.proofs.backward.Backward.mark_part.Given as goal

abbrev pub invariant-loop-at : goal.invariant-loop-at
invariant-loop-at l = record {
  after : l.fn.part.start ≤ l.at;
  inside : l.at ≤ l.fn.part.end;
  row : l.row < l.fn.limit;
  long : length l.numbers ≡ length l.fn.numbers;
  lane : ForBackward l.fn.self (λ tables. (end : ℕ)
      → IsLane tables l.fn.haystack l.fn.span end l.fn.part.end l.fn.from
      → IsLane tables l.fn.haystack l.fn.span end l.at l.row);
  marks : ForBackward l.fn.self (λ tables. (end : ℕ) → l.fn.part.end ≤ end
      → IsLane tables l.fn.haystack l.fn.span end l.fn.part.end l.fn.from
      → AreMarks tables l.fn.haystack l.fn.span.end l.numbers l.fn.part.start l.at l.fn.part.end);
  others : l.tally ≡ record l.fn.tally { scanned = l.tally.scanned };
  scanned : l.tally.scanned + l.at ≡ l.fn.tally.scanned + l.fn.part.end;
}
