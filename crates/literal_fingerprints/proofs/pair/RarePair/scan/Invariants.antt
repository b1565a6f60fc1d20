use Rattle.std.proofs.Common.{◌≡◌, ◌+◌, ◌-◌, ◌≤◌, get_or}
use Rattle.literal_fingerprints.specs.Inside.Lanes.{HasBack}
use Rattle.literal_fingerprints.specs.Inside.Hits.{NoneHit}
use Rattle.literal_fingerprints.proofs.pair.RarePair.scan.Given as goal

abbrev pub invariant-loop-at : goal.invariant-loop-at
invariant-loop-at l = record {
  low : l.span.start + 16 ≤ l.at;
  high : l.at ≤ l.span.end;
  before : HasBack l.before (λ k. get_or l.haystack (l.at + k - 16) 0);
  none : NoneHit l.self l.first_mask l.second_mask l.by_three l.apart l.haystack l.span.start l.at;
  scanned : l.tally ≡ record l.fn.tally { scanned = l.fn.tally.scanned + (l.at - l.span.start) };
}

abbrev pub decreases-loop-at : goal.decreases-loop-at
decreases-loop-at l = l.span.end - l.at
