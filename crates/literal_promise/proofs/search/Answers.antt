use Rattle.std.proofs.Common.{◌≡◌, Option, IfSome, false, subst}
use Rattle.literal_base.specs.Leftmost.{IsLeftmost}
use Rattle.literal_base.specs.Query.{Query}
use Rattle.literal_promise.specs.Together.{asked_query}
use Rattle.literal_promise.proofs.search.Goals as goal

pub returns-clause-leftmost : goal.returns-clause-leftmost
returns-clause-leftmost c =
    let query = asked_query c.args.asked.now in
    let same : c.in-Some.searcher ≡ query =
    subst (λ (built : Option Query). IfSome built (λ q. q ≡ query)) c.in-Some.is c.in_ok-searcher.ensures.same in
    subst (λ q. IsLeftmost q false c.args.haystack.now c.args.span c.find_in-found.result) same
    c.find_in-found.ensures.leftmost
