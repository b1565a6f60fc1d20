use Rattle.std.proofs.Common.{◌++◌, ◌∷◌, [], sym, subst, List, arith}
use Rattle.literal_base.specs.declared.search.Span.{Span}
use Rattle.literal_base.specs.MatchValue.{MatchValue}
use Rattle.literal_base.specs.Occurs.{NothingOccurs}
use Rattle.literal_base.proofs.lemmas.GreedyLists.{greedy_all, rest_is}
use Rattle.literal_prefilters.proofs.lemmas.MatchesSoFar.{SoFar, counted_all, one_more, refused, spent_all}
use Rattle.literal_prefilters.proofs.lemmas.MatchesSoFar.{spent_before}
use Rattle.literal_prefilters.proofs.lemmas.Callers.{are_bytes}
use Rattle.literal_prefilters.proofs.prefilter.confirming.ConfirmingSearch.find_all.Goals as goal

pub returns-in_err-push-clause-no_memory : goal.returns-in_err-push-clause-no_memory
returns-in_err-push-clause-no_memory c =
    let haystack = c.args.haystack.now in
    refused c.args.self.now haystack c.args.tally.now c.from_residual.result _ _ _ _
    c.covers_its_patterns.ensures.not_empty
    (one_more c.args.self.now haystack c.args.tally.now
    (are_bytes haystack (λ k. omega (arith, c.type_inv.haystack k))) c.covers_its_patterns.ensures.covered _ _ _
    c.loop-found.rest c.loop-found.invariant.to_end c.loop-found.invariant.so_far c.in-Some.ensures.compared
    c.covers_its_patterns.ensures.not_empty c.in-Some.found c.in-Some.ensures.leftmost c.in-Some.ensures.exact)

pub returns-in_err-push-clause-bounded : goal.returns-in_err-push-clause-bounded
returns-in_err-push-clause-bounded c =
    let haystack = c.args.haystack.now in
    spent_before c.args.self.now haystack c.args.tally.now _ _ _
    (one_more c.args.self.now haystack c.args.tally.now
    (are_bytes haystack (λ k. omega (arith, c.type_inv.haystack k))) c.covers_its_patterns.ensures.covered _ _ _
    c.loop-found.rest c.loop-found.invariant.to_end c.loop-found.invariant.so_far c.in-Some.ensures.compared
    c.covers_its_patterns.ensures.not_empty c.in-Some.found c.in-Some.ensures.leftmost c.in-Some.ensures.exact)

pub loop-found-preserved : goal.loop-found-preserved
loop-found-preserved c =
    let haystack = c.args.haystack.now in
    let so_far = one_more c.args.self.now haystack c.args.tally.now
    (are_bytes haystack (λ k. omega (arith, c.type_inv.haystack k))) c.covers_its_patterns.ensures.covered _ _ _
    c.loop-found.rest c.loop-found.invariant.to_end c.loop-found.invariant.so_far c.in-Some.ensures.compared
    c.covers_its_patterns.ensures.not_empty c.in-Some.found c.in-Some.ensures.leftmost c.in-Some.ensures.exact in
    record {
      to_end = c.loop-found.invariant.to_end;
      so_far = subst (λ (xs : List MatchValue). SoFar c.args.self.now haystack c.args.tally.now
          c.find_in_counted.new.tally xs c.end.result)
          (sym c.in_ok-push.ensures.items)
          (subst (λ e. SoFar c.args.self.now haystack c.args.tally.now c.find_in_counted.new.tally
          (c.loop-found.all.items ++ c.in-Some.found ∷ []) e) (sym c.end.ensures.end) so_far);
    }

pub returns-clause-greedy : goal.returns-clause-greedy
returns-clause-greedy c =
    let search = c.args.self.now in
    let haystack = c.args.haystack.now in
    greedy_all search.query search.ignore_case haystack c.loop-found.all.items c.loop-found.rest.start
    c.loop-found.invariant.so_far.greedy
    (subst (λ (s : Span). NothingOccurs search.query.patterns search.ignore_case haystack s)
    (rest_is haystack c.loop-found.rest c.loop-found.invariant.to_end) c.in_default.ensures.leftmost)

pub returns-clause-exact : goal.returns-clause-exact
returns-clause-exact c =
    let haystack = c.args.haystack.now in
    counted_all c.args.self.now haystack c.args.tally.now
    (are_bytes haystack (λ k. omega (arith, c.type_inv.haystack k))) c.covers_its_patterns.ensures.covered _ _ _
    c.loop-found.rest c.loop-found.invariant.to_end c.loop-found.invariant.so_far c.in_default.ensures.compared
    c.in_default.ensures.exact

pub returns-clause-bounded : goal.returns-clause-bounded
returns-clause-bounded c =
    let haystack = c.args.haystack.now in
    spent_all c.args.self.now haystack c.args.tally.now
    (are_bytes haystack (λ k. omega (arith, c.type_inv.haystack k))) c.covers_its_patterns.ensures.covered _ _ _
    c.loop-found.rest c.loop-found.invariant.to_end c.loop-found.invariant.so_far c.in_default.ensures.compared
    c.in_default.ensures.leftmost c.in_default.ensures.exact
