use Rattle.std.proofs.Common.{is_some, ap, sym, ◌∙◌, rules}
use Rattle.literal_prefilters.proofs.lemmas.Callers.{first_if_picked}
use Rattle.literal_promise.specs.Together.{asked_query}
use Rattle.literal_promise.proofs.covered.covered_patterns.Goals as goal

-- there is a prefilter, so the first pattern is not empty
pub returns-in_err-patterns-clause-no_memory : goal.returns-in_err-patterns-clause-no_memory
returns-in_err-patterns-clause-no_memory c =
    let asked = c.args.asked.now in
    let kept = first_if_picked asked.built_for asked.ignore_case (asked_query asked).patterns
    (sym (ap is_some (sym c.in-Some.is ∙ c.in_ok-prefilter.ensures.picked))) in
    search (rules, kept)
