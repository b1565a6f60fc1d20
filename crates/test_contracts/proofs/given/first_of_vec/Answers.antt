use Rattle.std.proofs.Common.{is_some, sym, ap, ◌∙◌}
use Rattle.literal_base.proofs.lemmas.Callers.{vec_gives}
use Rattle.literal_packed.proofs.lemmas.Callers.{built_of, searches_for}
use Rattle.test_contracts.proofs.given.first_of_vec.Goals as goal

pub returns-in_default-clause-built : goal.returns-in_default-clause-built
returns-in_default-clause-built c =
    sym (ap is_some c.in_default.is) ∙ ap is_some (built_of (vec_gives c.args.words) _ c.in_ok-searcher.ensures.ok)

pub returns-clause-built : goal.returns-clause-built
returns-clause-built c =
    sym (ap is_some c.in-Some.is) ∙ ap is_some (built_of (vec_gives c.args.words) _ c.in_ok-searcher.ensures.ok)

pub returns-clause-leftmost : goal.returns-clause-leftmost
returns-clause-leftmost c =
    let same = rw c.in-Some.is at (searches_for (vec_gives c.args.words) _ c.in_ok-searcher.ensures.ok) in
    rw same at c.find-first.ensures.leftmost
