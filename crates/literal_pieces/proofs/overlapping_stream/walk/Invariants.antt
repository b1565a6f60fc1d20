use Rattle.std.proofs.Common.{ℕ, ◌<◌, ◌≤◌, ◌++◌, List, take}
use Rattle.literal_occurrences.specs.Automaton.{EndsText, IsStateAfter}
use Rattle.literal_pieces.specs.OverlappingStream.{ScansOnce}
use Rattle.literal_pieces.proofs.overlapping_stream.walk.Given as goal

abbrev pub invariant-loop-at : goal.invariant-loop-at
invariant-loop-at l = record {
  leads : (text : List ℕ) → IsStateAfter l.automaton text l.fn.from
      → IsStateAfter l.automaton (text ++ take l.at l.haystack) l.state;
  none_upto : (text : List ℕ) → IsStateAfter l.automaton text l.fn.from → (k : ℕ) → 0 < k → k ≤ l.at
      → (i : ℕ) → ¬ EndsText l.automaton (text ++ take k l.haystack) i;
  counted : ScansOnce 0 l.at l.initial.tally l.tally;
}
