use Rattle.std.proofs.Common.{Ok, arith}
use Rattle.literal_c.proofs.lemmas.Pages.{begins_none, count_in_rest, count_of_greedy, count_of_none, nothing_occurs}
use Rattle.literal_c.proofs.answers.count_in.Goals as goal

pub returns-then-start-span-clause-count : goal.returns-then-start-span-clause-count
returns-then-start-span-clause-count c = λ search is.
    count_of_none search.query search.ignore_case c.args.haystack.now c.args.span
    (nothing_occurs search.query search.ignore_case c.args.haystack.now c.args.span c.first_candidate_in-start.result
    (omega arith) (c.first_candidate_in-start.ensures.none search is))

pub returns-clause-count : goal.returns-clause-count
returns-clause-count c = λ search is.
    count_in_rest search.query search.ignore_case c.args.haystack.now c.args.span c.first_candidate_in-start.result
    c.count_from.result
    (begins_none search.query search.ignore_case c.args.haystack.now c.args.span c.first_candidate_in-start.result
    (omega arith) (c.first_candidate_in-start.ensures.none search is))
    (c.count_from.ensures.count search is)

pub returns-in-Some-clause-count : goal.returns-in-Some-clause-count
returns-in-Some-clause-count c = λ search is.
    count_in_rest search.query search.ignore_case c.args.haystack.now c.args.span c.first_candidate_in-start.result
    (Ok c.in-Some.count)
    (begins_none search.query search.ignore_case c.args.haystack.now c.args.span c.first_candidate_in-start.result
    (omega arith) (c.first_candidate_in-start.ensures.none search is))
    (count_of_greedy search.query search.ignore_case c.args.haystack.now _ c.in-Some.count
    (c.in-Some.ensures.count search is))
