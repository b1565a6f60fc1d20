use Rattle.std.proofs.Common.{inl}
use Rattle.literal_base.proofs.lemmas.Callers.{slice_gives}
use Rattle.literal_search.specs.SearchValue.{NeedTooManyReversed}
use Rattle.literal_search.proofs.lemmas.Callers.{search_is_for}
use Rattle.search_promise.proofs.lemmas.Refused.{refuses_any}
use Rattle.search_promise.proofs.search_for.Goals as goal

pub returns-clause-same : goal.returns-clause-same
returns-clause-same c =
    search_is_for (slice_gives c.args.asked.now.patterns.now (cc)) c.args.asked.now.kind c.args.asked.now.ignore_case _
    c.in_ok-search.ensures.ok

pub returns-clause-kept : goal.returns-clause-kept
returns-clause-kept c =
    let same = search_is_for (slice_gives c.args.asked.now.patterns.now (cc)) c.args.asked.now.kind
    c.args.asked.now.ignore_case _ c.in_ok-search.ensures.ok in
    rw same at c.patterns_len.ensures.patterns

pub returns-in_err-search-clause-refused : goal.returns-in_err-search-clause-refused
returns-in_err-search-clause-refused c =
    let asked = c.args.asked.now in
    refuses_any asked c.from_residual.result (slice_gives asked.patterns.now (cc))
    (NeedTooManyReversed asked.ignore_case) (λ patterns many. inl many)
    c.in_err-search.field-0.0 c.in_err-search.ensures.error c.from_residual.ensures.1
