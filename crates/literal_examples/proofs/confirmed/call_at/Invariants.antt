use Rattle.std.proofs.Common.{◌-◌, ◌<◌, ◌≤◌, length, ℕ}
use Rattle.literal_base.specs.Occurs.{rest_from}
use Rattle.literal_search.specs.At.{OccursFirst}
use Rattle.literal_examples.specs.Confirmed.{IsCalled}
use Rattle.literal_examples.proofs.confirmed.call_at.Given as goal

abbrev pub invariant-loop-found : goal.invariant-loop-found
invariant-loop-found l = record {
  few : l.from ≤ length l.search.query.patterns;
  none : (i : ℕ) → i < l.from
      → OccursFirst l.search.query.patterns l.search.ignore_case l.text (rest_from l.text l.at) i
      → ¬ IsCalled l.search l.text l.at i;
}

abbrev pub decreases-loop-found : goal.decreases-loop-found
decreases-loop-found l = length l.search.query.patterns - l.from
