use Rattle.std.proofs.Common.{◌≡◌, ◌-◌, length}
use Rattle.std.specs.Iterator.{Yields}
use Rattle.literal_search.proofs.lemmas.Callers.{matches_of}
use Rattle.literal_search.specs.MatchesValue.{GivesCounted}
use Rattle.search_promise.proofs.taken_in_turn.Given as goal

-- what was found so far is in the list
abbrev pub invariant-loop-found : goal.invariant-loop-found
invariant-loop-found l = record {
  run : Yields GivesCounted (matches_of l.search l.haystack, l.fn.iterated) l.matches.items (l.iteration, l.iterated);
  haystack_is : l.iteration.haystack ≡ l.haystack;
  end_is : l.iteration.span.end ≡ length l.haystack;
  search_is : l.iteration.search ≡ l.search;
}

abbrev pub decreases-loop-found : goal.decreases-loop-found
decreases-loop-found l = length l.haystack - l.iteration.at
