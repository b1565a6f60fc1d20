use Rattle.std.proofs.Common.{◌≡◌, ◌++◌, ◌∷◌, [], sym, subst, false, List, length, arith, rules}
use Rattle.literal_base.specs.declared.search.Span.{Span}
use Rattle.literal_base.specs.MatchValue.{MatchValue}
use Rattle.literal_base.specs.Occurs.{NothingOccurs}
use Rattle.literal_packed.specs.Spending.{SpendsAtMost, counts_after_matches}
use Rattle.literal_packed.proofs.lemmas.Spending.{spends_found, spends_last, spends_within, ends_within}
use Rattle.literal_base.proofs.lemmas.GreedyLists.{rest_is, greedy_all, refuses_last}
use Rattle.literal_packed.proofs.lemmas.CountedLists.{FoundBefore, found_more, counts_all, counts_found}
use Rattle.literal_packed.proofs.api.Searcher.find_all.Goals as goal

pub returns-in_err-push-clause-bounded : goal.returns-in_err-push-clause-bounded
returns-in_err-push-clause-bounded c =
    spends_within c.args.self.now c.args.haystack.now c.in-Some.found.end c.args.tally.now c.find_in_counted.new.tally
    (spends_found c.args.self.now c.args.haystack.now c.loop-found.rest c.args.tally.now c.loop-found.tally
    c.find_in_counted.new.tally c.in-Some.found
    c.loop-found.invariant.to_end c.loop-found.invariant.within c.in-Some.ensures.not_empty
    c.loop-found.invariant.spends c.in-Some.ensures.leftmost c.in-Some.ensures.exact)

pub returns-in_err-push-clause-no_memory : goal.returns-in_err-push-clause-no_memory
returns-in_err-push-clause-no_memory c =
    let query = c.args.self.now in
    let haystack = c.args.haystack.now in
    let found = c.in-Some.found in
    let so_far = found_more query haystack c.args.tally.now c.loop-found.tally c.find_in_counted.new.tally
    c.loop-found.all.items c.loop-found.rest found c.loop-found.invariant.to_end c.loop-found.invariant.so_far
    c.in-Some.ensures.leftmost c.in-Some.ensures.exact in
    let refused = refuses_last query false haystack
    (λ all. c.find_in_counted.new.tally ≡ counts_after_matches c.args.tally.now query haystack 0 all)
    c.loop-found.all.items found found.end c.match_kind.ensures.patterns.not_empty so_far.greedy
    (counts_found query haystack c.args.tally.now c.find_in_counted.new.tally (c.loop-found.all.items ++ found ∷ [])
    found.end so_far) in
    search (rules, refused)

pub loop-found-preserved : goal.loop-found-preserved
loop-found-preserved c =
    let query = c.args.self.now in
    let haystack = c.args.haystack.now in
    let found = c.in-Some.found in
    let end_is = c.end.ensures.end in
    let ends = ends_within query haystack c.loop-found.rest found c.loop-found.invariant.to_end
    c.in-Some.ensures.leftmost in
    record {
      within = omega arith;
      to_end = c.loop-found.invariant.to_end;
      so_far = subst (λ (xs : List MatchValue). FoundBefore query haystack c.args.tally.now
          c.find_in_counted.new.tally xs c.end.result) (sym c.in_ok-push.ensures.items)
          (subst (λ e. FoundBefore query haystack c.args.tally.now c.find_in_counted.new.tally
          (c.loop-found.all.items ++ found ∷ []) e) (sym end_is)
          (found_more query haystack c.args.tally.now c.loop-found.tally c.find_in_counted.new.tally
          c.loop-found.all.items c.loop-found.rest found c.loop-found.invariant.to_end
          c.loop-found.invariant.so_far c.in-Some.ensures.leftmost c.in-Some.ensures.exact));
      spends = subst (λ e. SpendsAtMost query haystack 0 e c.args.tally.now c.find_in_counted.new.tally) (sym end_is)
          (spends_found query haystack c.loop-found.rest c.args.tally.now c.loop-found.tally c.find_in_counted.new.tally
          found
          c.loop-found.invariant.to_end c.loop-found.invariant.within c.in-Some.ensures.not_empty
          c.loop-found.invariant.spends c.in-Some.ensures.leftmost c.in-Some.ensures.exact);
    }

pub returns-clause-greedy : goal.returns-clause-greedy
returns-clause-greedy c =
    let query = c.args.self.now in
    let haystack = c.args.haystack.now in
    greedy_all query false haystack c.loop-found.all.items c.loop-found.rest.start c.loop-found.invariant.so_far.greedy
    (subst (λ (s : Span). NothingOccurs query.patterns false haystack s)
    (rest_is haystack c.loop-found.rest c.loop-found.invariant.to_end) c.in_default.ensures.leftmost)

pub returns-clause-exact : goal.returns-clause-exact
returns-clause-exact c =
    counts_all c.args.self.now c.args.haystack.now c.args.tally.now c.loop-found.tally c.find_in_counted.new.tally
    c.loop-found.all.items c.loop-found.rest c.loop-found.invariant.to_end c.loop-found.invariant.so_far
    c.in_default.ensures.exact

pub returns-clause-bounded : goal.returns-clause-bounded
returns-clause-bounded c =
    spends_within c.args.self.now c.args.haystack.now
    (length c.args.haystack.now) c.args.tally.now c.find_in_counted.new.tally
    (spends_last c.args.self.now c.args.haystack.now c.loop-found.rest c.args.tally.now c.loop-found.tally
    c.find_in_counted.new.tally
    c.loop-found.invariant.to_end c.loop-found.invariant.within c.loop-found.invariant.spends
    c.in_default.ensures.leftmost c.in_default.ensures.exact)
