use Rattle.std.proofs.Common.{◌≡◌}
use Rattle.search_promise.proofs.taken_overlapping.Given as goal

-- what was found so far is in the list, and the search is the same
abbrev pub invariant-loop-found : goal.invariant-loop-found
invariant-loop-found l = record {
  found : l.all.items ≡ l.yielded;
  search_is : l.found-iterator.search ≡ l.search;
}
