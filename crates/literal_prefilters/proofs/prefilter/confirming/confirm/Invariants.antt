use Rattle.std.proofs.Common.{◌≤◌, ◌-◌, ◌+◌, ◌*◌}
use Rattle.literal_prefilters.proofs.lemmas.RestOfSpan.{NoneBefore}
use Rattle.literal_prefilters.proofs.prefilter.confirming.confirm.Given as goal

abbrev pub invariant-loop-found : goal.invariant-loop-found
invariant-loop-found g l = record {
  after_start : l.span.start ≤ l.from;
  before_end : l.from ≤ l.span.end;
  none : NoneBefore l.patterns.patterns l.ignore_case l.haystack l.span l.from;
  grows : l.initial.tally.tried ≤ l.tally.tried;
  tried : l.tally.tried ≤ l.initial.tally.tried + (l.from - l.span.start);
  scanned : l.tally.scanned ≤ l.initial.tally.scanned + (l.from - l.span.start) + g.P.PrefilterI.reach l.pre *
      (l.tally.tried - l.initial.tally.tried);
}

abbrev pub decreases-loop-found : goal.decreases-loop-found
decreases-loop-found g l = l.span.end - l.from
