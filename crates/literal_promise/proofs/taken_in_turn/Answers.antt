use Rattle.std.proofs.Common.{false, List, sym, subst}
use Rattle.literal_base.specs.MatchValue.{MatchValue}
use Rattle.literal_base.specs.Greedy.{IsGreedy}
use Rattle.literal_packed.proofs.lemmas.Callers.{greedy_from_run}
use Rattle.literal_promise.specs.Together.{IsIteration}
use Rattle.literal_promise.proofs.lemmas.Runs.{hashed_by_run, iteration_of_run}
use Rattle.literal_promise.proofs.taken_in_turn.Goals as goal

pub returns-clause-greedy : goal.returns-clause-greedy
returns-clause-greedy c =
    let query = c.args.searcher.now in
    let haystack = c.args.haystack.now in
    subst (λ (items : List MatchValue). IsGreedy query false haystack 0 items)
    (sym c.loop-found.invariant)
    (greedy_from_run query haystack _ _ _ _ (cc) c.loop-found.yielded_by c.in_default.ensures.steps)

pub returns-clause-iteration : goal.returns-clause-iteration
returns-clause-iteration c =
    let query = c.args.searcher.now in
    let haystack = c.args.haystack.now in
    subst (λ (items : List MatchValue). IsIteration query haystack items c.into_tally.result)
    (sym c.loop-found.invariant)
    (iteration_of_run query haystack _ _ _ _ _ c.into_tally.ensures (cc)
    c.loop-found.yielded_by c.in_default.ensures.steps)

pub returns-clause-hashed : goal.returns-clause-hashed
returns-clause-hashed c =
    hashed_by_run c.args.searcher.now c.args.haystack.now _ _ _ _ _ c.into_tally.ensures (cc)
    c.loop-found.yielded_by c.in_default.ensures.steps c.next_is_bounded.ensures
