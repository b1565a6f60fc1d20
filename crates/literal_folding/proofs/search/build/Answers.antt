-- The patterns can be kept, so only their states and memory can refuse them.
use Rattle.std.proofs.Common.{rules, tests, false}
use Rattle.literal_search.proofs.lemmas.Callers.{search_is_for_bytes, mapped_gives}
use Rattle.literal_folding.proofs.lemmas.Refused.{refuses_list}
use Rattle.literal_folding.proofs.search.build.Goals as goal

pub returns-clause-ok : goal.returns-clause-ok
returns-clause-ok c =
    search_is_for_bytes
    (mapped_gives _ (λ pattern. pattern.items) c.args.patterns.now (cc) c.map-patterns.ensures.closure
    (λ x r q k. search (rules, tests)))
    c.args.kind false _ c.in_ok-search.ensures.ok

pub returns-in_err-search-clause-error : goal.returns-in_err-search-clause-error
returns-in_err-search-clause-error c =
    refuses_list
    (mapped_gives _ (λ pattern. pattern.items) c.args.patterns.now (cc) c.map-patterns.ensures.closure
    (λ x r q k. search (rules, tests)))
    c.requires c.in_err-search.field-0.0 c.in_err-search.ensures.error c.from_residual.result c.from_residual.ensures.1
