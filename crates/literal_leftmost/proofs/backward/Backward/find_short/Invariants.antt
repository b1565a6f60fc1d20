use Rattle.std.proofs.Common.{◌≡◌, ◌-◌}
use Rattle.literal_leftmost.specs.Inside.Backward.{ForBackward, NoneFrom}
use Rattle.literal_leftmost.specs.Inside.Leftmost.{IsProgress, owed_by}
use Rattle.literal_leftmost.proofs.backward.Backward.find_short.Given as goal

abbrev pub invariant-loop-progress : goal.invariant-loop-progress
invariant-loop-progress l = record {
  none : ForBackward l.fn.self (λ tables. NoneFrom tables l.haystack l.span.end l.span.start l.progress.at);
  progress : IsProgress l.fn.self l.span (owed_by l.scan) l.fn.tally.scanned l.tally.scanned l.progress;
  others : l.tally ≡ record l.fn.tally { scanned = l.tally.scanned };
}

abbrev pub decreases-loop-progress : goal.decreases-loop-progress
decreases-loop-progress l = l.span.end - l.progress.at
