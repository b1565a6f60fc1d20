use Rattle.std.proofs.Common.{◌≡◌, ◌≢◌, ◌+◌, ◌-◌, ◌<◌, ◌≤◌, ℕ}
use Rattle.std.specs.Prelude.{slice_index}
use Rattle.literal_fingerprints.proofs.one_byte.find_byte.Given as goal

abbrev pub invariant-loop-at : goal.invariant-loop-at
invariant-loop-at l = record {
  after : l.fn.span.start ≤ l.at;
  inside : l.at ≤ l.fn.span.end;
  none : (k : ℕ) → l.fn.span.start ≤ k → k < l.at → slice_index l.haystack k ≢ l.byte;
  ticks : l.tally ≡ record l.fn.tally { scanned = l.fn.tally.scanned + (l.at - l.fn.span.start) };
}

abbrev pub decreases-loop-at : goal.decreases-loop-at
decreases-loop-at l = l.fn.span.end - l.at
