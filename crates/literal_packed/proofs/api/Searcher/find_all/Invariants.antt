use Rattle.std.proofs.Common.{◌≡◌, ◌≤◌, ◌-◌, length}
use Rattle.literal_packed.specs.Spending.{SpendsAtMost}
use Rattle.literal_packed.proofs.lemmas.CountedLists.{FoundBefore}
use Rattle.literal_packed.proofs.api.Searcher.find_all.Given as goal

abbrev pub invariant-loop-found : goal.invariant-loop-found
invariant-loop-found l = record {
  within : l.rest.start ≤ length l.haystack;
  to_end : l.rest.end ≡ length l.haystack;
  so_far : FoundBefore l.self l.haystack l.fn.tally l.tally l.all.items l.rest.start;
  spends : SpendsAtMost l.self l.haystack 0 l.rest.start l.fn.tally l.tally;
}

abbrev pub decreases-loop-found : goal.decreases-loop-found
decreases-loop-found l = length l.haystack - l.rest.start
