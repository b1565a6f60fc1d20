use Rattle.std.proofs.Common.{◌≡◌, ◌-◌, length}
use Rattle.literal_prefilters.proofs.lemmas.MatchesSoFar.{SoFar}
use Rattle.literal_prefilters.proofs.prefilter.confirming.ConfirmingSearch.find_all.Given as goal

abbrev pub invariant-loop-found : goal.invariant-loop-found
invariant-loop-found l = record {
  to_end : l.rest.end ≡ length l.haystack;
  so_far : SoFar l.self l.haystack l.fn.tally l.tally l.all.items l.rest.start;
}

abbrev pub decreases-loop-found : goal.decreases-loop-found
decreases-loop-found l = length l.haystack - l.rest.start
