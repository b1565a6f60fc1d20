use Rattle.std.proofs.Common.{◌≡◌, ◌-◌, ◌≤◌}
use Rattle.std.specs.Iterator.{Yields}
use Rattle.literal_search.specs.MatchesValue.{GivesCounted}
use Rattle.literal_search.proofs.matches.list_of.Given as goal

-- the list has what was found
abbrev pub invariant-loop-found : goal.invariant-loop-found
invariant-loop-found g l =
    let first = g.M.CountedMatches.seen l.initial.matches in
    let it = g.M.CountedMatches.seen l.matches in
    record {
      run : Yields GivesCounted (first, l.fn.tally) l.all.items (it, l.tally);
      search_is : it.search ≡ first.search;
      haystack_is : it.haystack ≡ first.haystack;
      span_is : it.span ≡ first.span;
      after : it.span.start ≤ it.at;
    }

abbrev pub decreases-loop-found : goal.decreases-loop-found
decreases-loop-found g l =
    let it = g.M.CountedMatches.seen l.matches in
    it.span.end - it.at
