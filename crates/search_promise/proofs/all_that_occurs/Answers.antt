use Rattle.std.proofs.Common.{inr}
use Rattle.literal_base.proofs.lemmas.Callers.{slice_gives}
use Rattle.literal_search.specs.SearchValue.{NeedTooManyStates}
use Rattle.literal_search.proofs.lemmas.Callers.{overlapping_is_for}
use Rattle.search_promise.proofs.lemmas.Refused.{refused_memory, refuses_any}
use Rattle.search_promise.proofs.all_that_occurs.Goals as goal

pub returns-in_err-search-clause-refused : goal.returns-in_err-search-clause-refused
returns-in_err-search-clause-refused c =
    let asked = c.args.asked.now in
    refuses_any asked c.from_residual.result (slice_gives asked.patterns.now (cc))
    (NeedTooManyStates asked.ignore_case) (λ patterns many. inr many)
    c.in_err-search.field-0.0 c.in_err-search.ensures.error c.from_residual.ensures.1

pub returns-in_err-all-clause-refused : goal.returns-in_err-all-clause-refused
returns-in_err-all-clause-refused c =
    let same = overlapping_is_for (slice_gives c.args.asked.now.patterns.now (cc)) c.args.asked.now.ignore_case _
    c.in_ok-search.ensures.ok in
    refused_memory c.args.asked.now c.from_residual-in_err-all.result
    (rw same at c.in_err-all.ensures.no_memory) c.from_residual-in_err-all.ensures.1

pub returns-clause-overlapping : goal.returns-clause-overlapping
returns-clause-overlapping c =
    let same = overlapping_is_for (slice_gives c.args.asked.now.patterns.now (cc)) c.args.asked.now.ignore_case _
    c.in_ok-search.ensures.ok in
    rw same at c.in_ok-all.ensures.overlapping

pub returns-clause-earliest : goal.returns-clause-earliest
returns-clause-earliest c =
    let same = overlapping_is_for (slice_gives c.args.asked.now.patterns.now (cc)) c.args.asked.now.ignore_case _
    c.in_ok-search.ensures.ok in
    rw same at c.earliest_end-earliest.ensures
