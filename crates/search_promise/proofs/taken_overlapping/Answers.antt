use Rattle.std.proofs.Common.{List, arith, rules, ◌<◌, length, subst, sym}
use Rattle.literal_base.specs.MatchValue.{MatchValue}
use Rattle.literal_search.specs.Overlapping.{IsOverlapping, OverlappingValue}
use Rattle.search_promise.proofs.taken_overlapping.Goals as goal

pub returns-clause-overlapping : goal.returns-clause-overlapping
returns-clause-overlapping c =
    let s = c.args.search.now in
    let text = c.args.haystack.now in
    subst (λ (all : List MatchValue). IsOverlapping s.patterns s.ignore_case text c.args.span all)
    (sym c.loop-found.invariant.found)
    (c.iterations_give_each_occurrence_once.ensures s text c.args.span _ _ _ c.loop-found.yielded (cc)
    c.loop-found.yielded_by c.in-None.ensures.steps)

pub returns-in_err-push-clause-no_memory : goal.returns-in_err-push-clause-no_memory
returns-in_err-push-clause-no_memory c =
    let occurs = c.in-Some.ensures.steps.gives.to_come.occurrence.occurs in
    let some : 0 < length c.args.search.now.patterns =
    subst (λ (s : OverlappingValue). 0 < length s.patterns) c.loop-found.invariant.search_is
    (omega (arith, occurs.is_pattern)) in
    search (rules, some)
