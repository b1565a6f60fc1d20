use Rattle.std.proofs.Common.{◌≡◌, ◌++◌, List}
use Rattle.literal_base.specs.MatchValue.{MatchValue}
use Rattle.literal_search.proofs.lemmas.Callers.{AreMatchesFrom}
use Rattle.marker.specs.Marked.{marked}
use Rattle.marker.proofs.mark.Given as goal

-- whatever matches are still to come, the text so far goes on as it has to
abbrev pub invariant-loop-found : goal.invariant-loop-found
invariant-loop-found l = record {
  from : AreMatchesFrom l.search l.text l.at l.found-iterator;
  marks : (more : List MatchValue) → l.marks.items ++ marked l.text l.at more ≡ marked l.text 0 (l.yielded ++ more);
}
