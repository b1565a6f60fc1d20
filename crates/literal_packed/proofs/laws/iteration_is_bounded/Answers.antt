use Rattle.std.proofs.Common.{Some, None, sym, subst, refl, arith}
use Rattle.literal_packed.proofs.lemmas.Spending.{spends_nothing}
use Rattle.literal_packed.proofs.lemmas.Iterations.{IsUnderWay, under_way_next, run_within}
use Rattle.literal_packed.proofs.laws.iteration_is_bounded.Goals as goal

pub loop-init : goal.loop-init
loop-init c = subst (IsUnderWay c.args.searcher.now c.args.haystack.now) (sym c.find_iter-matches.ensures)
    (record { query_is = refl; haystack_is = refl; within = omega arith; spends = spends_nothing _ _ _ _ })

pub loop-preserved : goal.loop-preserved
loop-preserved c = under_way_next _ _ _ _ (Some _) c.loop.invariant c.in-Some.ensures.steps

pub returns-clause-bounded : goal.returns-clause-bounded
returns-clause-bounded c = run_within _ _ _ (under_way_next _ _ _ _ None c.loop.invariant c.in_default.ensures.steps)
