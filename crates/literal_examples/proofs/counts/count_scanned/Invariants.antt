use Rattle.std.proofs.Common.{◌≡◌, ◌-◌, ◌≤◌, List, length}
use Rattle.std.specs.Iterator.{Yields}
use Rattle.literal_base.specs.MatchValue.{MatchValue}
use Rattle.literal_search.proofs.lemmas.Callers.{matches_of}
use Rattle.literal_search.specs.MatchesValue.{GivesCounted}
use Rattle.literal_examples.proofs.counts.count_scanned.Given as goal

abbrev pub invariant-loop-count : goal.invariant-loop-count
invariant-loop-count l = record {
  run : (all : List MatchValue) × Yields GivesCounted
      (matches_of l.search l.text, l.fn.tally) all (l.matches, l.tally)
      × (l.count ≡ length all);
  text_is : l.matches.haystack ≡ l.text;
  end_is : l.matches.span.end ≡ length l.text;
  few : l.count ≤ l.matches.at;
}

abbrev pub decreases-loop-count : goal.decreases-loop-count
decreases-loop-count l = length l.text - l.matches.at
