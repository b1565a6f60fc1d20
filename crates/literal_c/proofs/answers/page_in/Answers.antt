use Rattle.std.proofs.Common.{arith, inl, inr}
use Rattle.literal_c.proofs.lemmas.Pages.{begins_none, page_from}
use Rattle.literal_c.proofs.answers.page_in.Goals as goal

pub returns-clause-page : goal.returns-clause-page
returns-clause-page c = λ search is.
    page_from search.query search.ignore_case c.args.haystack.now c.args.span c.first_candidate_in-start.result
    c.args.found.now c.page_from.new.found c.in_ok-page.page
    (begins_none search.query search.ignore_case c.args.haystack.now c.args.span c.first_candidate_in-start.result
    (omega arith) (c.first_candidate_in-start.ensures.none search is))
    (c.in_ok-page.ensures.page search is)
    (λ both. elim c.else-page-eq0.either [ inl last ↦ last.1 both.1 | inr some ↦ some both.0 ])
