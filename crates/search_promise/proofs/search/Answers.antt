use Rattle.literal_search.proofs.lemmas.Callers.{some_if_refused}
use Rattle.search_promise.proofs.lemmas.Refused.{refused_memory}
use Rattle.search_promise.proofs.search.Goals as goal

pub returns-in_err-list-clause-refused : goal.returns-in_err-list-clause-refused
returns-in_err-list-clause-refused c =
    let same = c.in_ok-search.ensures.same in
    refused_memory c.args.asked.now c.from_residual-in_err-list.result
    (rw same at (some_if_refused c.in_ok-search.search _ _ c.in_err-list.ensures.no_memory))
    c.from_residual-in_err-list.ensures.1

pub returns-clause-leftmost : goal.returns-clause-leftmost
returns-clause-leftmost c =
    let same = c.in_ok-search.ensures.same in
    rw same at c.find_in_counted-found.ensures.leftmost
