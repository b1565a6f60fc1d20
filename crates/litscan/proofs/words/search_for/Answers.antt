use Rattle.std.proofs.Common.{map, rules, subst, sym, tests}
use Rattle.literal_base.specs.declared.packed.MatchKind.TheVariants.{LeftmostLongest}
use Rattle.literal_search.proofs.lemmas.Callers.{search_is_for_bytes, mapped_gives}
use Rattle.litscan.specs.Fault.{RefusesWords}
use Rattle.litscan.proofs.lemmas.Refused.{refuses_words}
use Rattle.litscan.proofs.words.search_for.Goals as goal

pub returns-in-Ok-clause-built : goal.returns-in-Ok-clause-built
returns-in-Ok-clause-built c =
    search_is_for_bytes
    (mapped_gives _ (λ word. word.items) c.args.words.now (cc) c.map-words.ensures.closure
    (λ x r q k. search (rules, tests)))
    LeftmostLongest c.args.ignore_case _ c.in-Ok.ensures.ok

pub returns-in-Err-clause-error : goal.returns-in-Err-clause-error
returns-in-Err-clause-error c =
    subst (RefusesWords c.args.ignore_case (map (λ word. word.items) c.args.words.now)) (sym c.of_build.ensures)
    (refuses_words
    (mapped_gives _ (λ word. word.items) c.args.words.now (cc) c.map-words.ensures.closure
    (λ x r q k. search (rules, tests)))
    c.args.ignore_case _ c.in-Err.ensures.error)
