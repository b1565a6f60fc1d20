use Rattle.std.proofs.Common.{false, List, sym, subst}
use Rattle.std.proofs.lemmas.Result.{IfOk-weaker}
use Rattle.literal_base.specs.MatchValue.{MatchValue}
use Rattle.literal_base.specs.Greedy.{IsGreedy}
use Rattle.literal_packed.proofs.lemmas.Callers.{greedy_from_run}
use Rattle.test_contracts.proofs.uses.collected.Goals as goal

pub returns : goal.returns
returns c =
    let query = c.args.searcher.now in
    let haystack = c.args.haystack.now in
    IfOk-weaker c.collect.result _ _
    (λ all ran.
    let ended = ran.1.2 tt in
    subst (λ (items : List MatchValue). IsGreedy query false haystack 0 items)
    (sym ran.2.0)
    (greedy_from_run query haystack _ ran.0 ran.1.0 ended.0 c.find_iter.ensures ran.1.1 ended.1))
    c.collect.ensures.ran
