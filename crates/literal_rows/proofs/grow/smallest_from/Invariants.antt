use Rattle.std.proofs.Common.{◌≤◌, ◌<◌, ℕ, get_or}
use Rattle.literal_rows.proofs.grow.smallest_from.Given as goal

abbrev pub invariant-loop-number : goal.invariant-loop-number
invariant-loop-number l = record {
  from : l.from ≤ l.below → l.from ≤ l.smallest;
  below : l.smallest ≤ l.below;
  none : (k : ℕ) → k < l.number-index → l.from ≤ get_or l.numbers k 0 → l.smallest ≤ get_or l.numbers k 0;
}
