use Rattle.std.proofs.Common.{◌≡◌, ◌+◌, ◌-◌, ◌<◌, ℕ, List}
use Rattle.literal_occurrences.specs.Automaton.{IsStateAfter}
use Rattle.literal_occurrences.specs.PreparedOverlapping.{ForOverlapping, tables_in}
use Rattle.literal_occurrences.proofs.lemmas.PreparedStates.{WalksAt}
use Rattle.literal_occurrences.proofs.prepared_overlapping.PreparedOverlapping.walk_counted.Given as goal

abbrev pub invariant-loop-at : goal.invariant-loop-at
invariant-loop-at l = record {
  within : l.row < l.limit;
  walks : ForOverlapping l.self (λ search. (text : List ℕ) → IsStateAfter (tables_in search l.self) text l.fn.state
      → WalksAt (tables_in search l.self) text l.haystack l.fn.span.start l.fn.state l.at l.row);
  counted : l.tally ≡ record l.initial.tally { scanned = l.initial.tally.scanned + (l.at - l.fn.span.start) };
}
