use Rattle.std.proofs.Common.{◌<◌, ap, arith, length, refl, rules, ◌∙◌, subst, sym}
use Rattle.literal_search.specs.SearchValue.{SearchValue}
use Rattle.literal_search.proofs.lemmas.Callers.{scans_whole}
use Rattle.search_promise.proofs.taken_in_turn.Goals as goal

pub loop-found-preserved : goal.loop-found-preserved
loop-found-preserved c =
    let so_far = c.loop-found.invariant in
    let step = c.in-Some.ensures in
    record {
      run = rw (sym c.in_ok-push.ensures.items) at (c.iterations_scan_at_most.ensures.more _ _ _ _ c.in-Some.found
          so_far.run (record { gives = step.gives; scans = step.scans }));
      haystack_is = ap (λ m. m.haystack) step.gives.goes_on ∙ so_far.haystack_is;
      end_is = ap (λ m. m.span.end) step.gives.goes_on ∙ so_far.end_is;
      search_is = ap (λ m. m.search) step.gives.goes_on ∙ so_far.search_is;
    }

pub returns-clause-greedy : goal.returns-clause-greedy
returns-clause-greedy c =
    c.iterations_scan_at_most.ensures.greedy _ _ _ _ c.loop-found.invariant.run
    (record {
      gives = c.in_default.ensures.gives;
      scans = c.in_default.ensures.scans;
    })

pub returns-clause-bounded : goal.returns-clause-bounded
returns-clause-bounded c =
    scans_whole c.args.search.now.query.patterns c.args.haystack.now c.args.iterated.now c.next_counted.new.tally
    (c.iterations_scan_at_most.ensures.bounded _ _ _ _ c.loop-found.invariant.run
    (record {
      gives = c.in_default.ensures.gives;
      scans = c.in_default.ensures.scans;
    }))

pub returns-in_err-push-clause-no_memory : goal.returns-in_err-push-clause-no_memory
returns-in_err-push-clause-no_memory c =
    let some : 0 < length c.args.search.now.query.patterns =
    subst (λ (s : SearchValue). 0 < length s.query.patterns) c.loop-found.invariant.search_is
    (omega (arith, c.in-Some.ensures.gives.leftmost.occurs.is_pattern)) in
    search (rules, some)

pub returns-clause-each : goal.returns-clause-each
returns-clause-each c =
    let each = c.iterations_scan_at_most.ensures.each _ _ _ _ c.loop-found.invariant.run
    (record {
      gives = c.in_default.ensures.gives;
      scans = c.in_default.ensures.scans;
    }) in
    omega (arith, each)
