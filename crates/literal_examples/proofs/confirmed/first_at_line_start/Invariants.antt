use Rattle.std.proofs.Common.{◌≡◌, ◌-◌, ◌<◌, ◌≤◌, ℕ, false, length}
use Rattle.literal_base.specs.Occurs.{Occurs, whole_of}
use Rattle.literal_examples.specs.Confirmed.{begins_line}
use Rattle.literal_examples.proofs.confirmed.first_at_line_start.Given as goal

abbrev pub invariant-loop-found : goal.invariant-loop-found
invariant-loop-found l = record {
  search : l.starts.search ≡ l.search;
  haystack : l.starts.haystack ≡ l.text;
  span : l.starts.span ≡ whole_of l.text;
  inside : l.starts.at ≤ length l.text;
  none : (i at : ℕ) → at < l.starts.at
      → Occurs l.search.query.patterns l.search.ignore_case l.text (whole_of l.text) i at
      → begins_line l.text at ≡ false;
}

abbrev pub decreases-loop-found : goal.decreases-loop-found
decreases-loop-found l = length l.text - l.starts.at
