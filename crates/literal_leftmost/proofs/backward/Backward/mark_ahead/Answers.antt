use Rattle.std.proofs.Common.{rules}
use Rattle.literal_leftmost.proofs.lemmas.Leftmost.{ahead_few}
use Rattle.literal_leftmost.proofs.backward.Backward.mark_ahead.Goals as goal
use Rattle.literal_leftmost.proofs.backward.Backward.mark_ahead.Goals.{else-at-from+in_ok-marks}
use Rattle.literal_leftmost.proofs.backward.Backward.mark_ahead.Goals.{then-at-from+in_ok-mark_offset}

pub returns : goal.returns
returns c = elim c.if-at-from.branch [
  | then-at-from+in_ok-mark_offset w ↦ rw (w.numbers-is, w.tally-is, w.marks-is, c.nothing_before-2.ensures) (record {
    later = search (rules, ahead_few, w);
    none = search rules;
    lies = search rules;
    marked = search (rules, ahead_few, w);
    placed = search (rules, ahead_few, w);
    known = search (rules, ahead_few, w);
    further = search (rules, ahead_few, w);
    bounded = search (rules, ahead_few, w);
    least = search (rules, ahead_few, w);
  })
  | else-at-from+in_ok-marks w ↦ rw (w.numbers-is, w.tally-is, w.marks-is, c.nothing_before-2.ensures) (record {
    later = search (rules, ahead_few, w);
    none = search rules;
    lies = search rules;
    marked = search (rules, ahead_few, w);
    placed = search (rules, ahead_few, w);
    known = search (rules, ahead_few, w);
    further = search (rules, ahead_few, w);
    bounded = search (rules, ahead_few, w);
    least = search (rules, ahead_few, w);
  })
]
