use Rattle.std.proofs.Common.{ℕ, ◌+◌, ◌<◌, length, slice_range}
use Rattle.literal_base.specs.Occurs.{Occurs, pattern_at, whole_of}
use Rattle.literal_search.specs.Automaton.{IsStateAfter}
use Rattle.literal_examples.proofs.stepping.first_end.Given as goal

-- the state is that after what was read, and nothing ends there
abbrev pub invariant-loop-at : goal.invariant-loop-at
invariant-loop-at l = record {
  state : IsStateAfter l.automaton (slice_range l.haystack 0 l.at) l.state;
  none : (i place : ℕ) → Occurs l.search.patterns l.search.ignore_case l.haystack (whole_of l.haystack) i place
      → l.at < place + length (pattern_at l.search.patterns i);
}
