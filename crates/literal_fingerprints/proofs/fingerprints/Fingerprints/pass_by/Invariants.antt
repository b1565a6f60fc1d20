use Rattle.std.proofs.Common.{◌≡◌, ◌+◌, ◌-◌, ◌≤◌, get_or, take}
use Rattle.literal_fingerprints.specs.Inside.Lanes.{HasBack}
use Rattle.literal_fingerprints.specs.Inside.Scan.{NoneShared}
use Rattle.literal_fingerprints.proofs.fingerprints.Fingerprints.pass_by.Given as goal

abbrev pub invariant-loop-at : goal.invariant-loop-at
invariant-loop-at l = record {
  low : l.from ≤ l.at;
  high : l.at ≤ l.fn.span.end;
  before : HasBack l.before (λ k. get_or (take l.fn.span.end l.haystack) (l.at - 16 + k) 0);
  none : NoneShared l.self (take l.fn.span.end l.haystack) l.fn.span.start l.at;
  scanned : l.tally ≡ record l.initial.tally { scanned = l.initial.tally.scanned + (l.at - l.from) };
}

abbrev pub decreases-loop-at : goal.decreases-loop-at
decreases-loop-at l = l.fn.span.end - l.at
