use Rattle.std.proofs.Common.{◌≡◌, ◌+◌, ◌-◌, ◌≤◌, take}
use Rattle.std.specs.List.{count_by}
use Rattle.literal_fingerprints.specs.ShortPatterns.{is_byte}
use Rattle.literal_fingerprints.proofs.one_byte.count_byte.Given as goal

abbrev pub invariant-loop-at : goal.invariant-loop-at
invariant-loop-at l = record {
  after : l.fn.span.start ≤ l.at;
  inside : l.at ≤ l.fn.span.end;
  few : l.count + l.fn.span.start ≤ l.at;
  counted : l.count + count_by (is_byte l.fn.byte) (take l.fn.span.start l.fn.haystack)
      ≡ count_by (is_byte l.fn.byte) (take l.at l.fn.haystack);
  ticks : l.tally ≡ record l.initial.tally { scanned = l.initial.tally.scanned + (l.at - l.fn.span.start) };
}

abbrev pub decreases-loop-at : goal.decreases-loop-at
decreases-loop-at l = l.fn.span.end - l.at

abbrev pub invariant-loop-at-2 : goal.invariant-loop-at-2
invariant-loop-at-2 l = record {
  after : l.fn.span.start ≤ l.at;
  inside : l.at ≤ l.fn.span.end;
  few : l.count + l.fn.span.start ≤ l.at;
  counted : l.count + count_by (is_byte l.fn.byte) (take l.fn.span.start l.fn.haystack)
      ≡ count_by (is_byte l.fn.byte) (take l.at l.fn.haystack);
  began : l.initial.at ≤ l.at;
  ticks : l.tally ≡ record l.initial.tally { scanned = l.initial.tally.scanned + (l.at - l.initial.at) };
}

abbrev pub decreases-loop-at-2 : goal.decreases-loop-at-2
decreases-loop-at-2 l = l.fn.span.end - l.at
