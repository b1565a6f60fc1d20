use Rattle.std.proofs.Common.{◌≡◌, ℕ, ◌+◌, ◌<◌, ◌≤◌, ◌^◌}
use Rattle.literal_leftmost.specs.Inside.Backward.{ForBackward, NoneFrom}
use Rattle.literal_leftmost.specs.Inside.Leftmost.{IsLane}
use Rattle.literal_leftmost.proofs.backward.Backward.cross.Given as goal

abbrev pub invariant-loop-at : goal.invariant-loop-at
invariant-loop-at l = record {
  after : l.fn.part.start ≤ l.at;
  inside : l.at ≤ l.fn.part.end;
  row : l.row < l.fn.limit;
  lane : ForBackward l.fn.self (λ tables. (end : ℕ)
      → IsLane tables l.fn.haystack l.fn.span end l.fn.part.end l.fn.from
      → IsLane tables l.fn.haystack l.fn.span end l.at l.row);
  none : ForBackward l.fn.self (λ tables. (end : ℕ) → l.fn.part.end ≤ end
      → IsLane tables l.fn.haystack l.fn.span end l.fn.part.end l.fn.from → l.most < 2 ^ 31
      → NoneFrom tables l.fn.haystack l.fn.span.end l.at l.fn.part.end);
  others : l.tally ≡ record l.fn.tally { scanned = l.tally.scanned };
  scanned : l.tally.scanned + l.at ≡ l.fn.tally.scanned + l.fn.part.end;
}
