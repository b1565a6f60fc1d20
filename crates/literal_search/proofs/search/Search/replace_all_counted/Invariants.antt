use Rattle.std.proofs.Common.{◌-◌, List, length}
use Rattle.std.specs.Iterator.{Yields}
use Rattle.literal_base.specs.MatchValue.{MatchValue}
use Rattle.literal_search.specs.MatchesValue.{GivesCounted}
use Rattle.literal_search.proofs.lemmas.Callers.{matches_of}
use Rattle.literal_search.proofs.lemmas.Replaced.{IsWrittenTo}
use Rattle.literal_search.proofs.search.Search.replace_all_counted.Given as goal

-- the text so far goes on as it has to
abbrev pub invariant-loop-found : goal.invariant-loop-found
invariant-loop-found l = record {
  done : List MatchValue;
  run : Yields GivesCounted (matches_of l.self l.haystack, l.fn.tally) done (l.matches, l.tally);
  written : IsWrittenTo l.self l.haystack l.replacements l.matches l.at l.text.items done;
}

abbrev pub decreases-loop-found : goal.decreases-loop-found
decreases-loop-found l = length l.haystack - l.matches.at
