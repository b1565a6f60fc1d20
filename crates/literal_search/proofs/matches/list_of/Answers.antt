use Rattle.std.proofs.Common.{◌∙◌, ◌++◌, ◌∷◌, [], List, ap, arith, subst, sym, ℕ}
use Rattle.std.proofs.iter.Next.{Yields-more}
use Rattle.literal_base.specs.Greedy.{IsGreedyIn}
use Rattle.literal_base.specs.Occurs.{NothingOccurs, between}
use Rattle.literal_base.specs.declared.search.Span.{Span}
use Rattle.literal_search.specs.MatchesValue.{GivesCounted, MatchesValue}
use Rattle.literal_search.specs.SearchValue.{SearchValue}
use Rattle.literal_search.proofs.lemmas.Callers.{greedy_from_yields}
use Rattle.literal_leftmost.proofs.lemmas.GreedyIn.{leftmost_occurs, on_err}
use Rattle.literal_leftmost.proofs.lemmas.Iterations.{gives_from_counted, scans_each_from_yields}
use Rattle.literal_leftmost.proofs.lemmas.Iterations.{scans_part_from_yields}
use Rattle.literal_leftmost.proofs.lemmas.Iterations.{scans_rest_from_yields}
use Rattle.literal_search.proofs.matches.list_of.Goals as goal

pub loop-found-preserved : goal.loop-found-preserved
loop-found-preserved g c =
    let so_far = c.loop-found.invariant in
    let step = c.in-Some.ensures in
    record {
      run = rw (sym c.in_ok-push.ensures.items) at (Yields-more GivesCounted _ _ _ c.in-Some.found _ so_far.run
          (record { gives = step.gives; scans = step.scans }));
      search_is = ap (λ (m : MatchesValue). m.search) step.gives.goes_on ∙ so_far.search_is;
      haystack_is = ap (λ (m : MatchesValue). m.haystack) step.gives.goes_on ∙ so_far.haystack_is;
      span_is = ap (λ (m : MatchesValue). m.span) step.gives.goes_on ∙ so_far.span_is;
      after = omega (
        arith,
        so_far.after,
        step.gives.leftmost.occurs.after_start,
        step.gives.not_empty,
        ap (λ (m : MatchesValue). m.at) step.gives.goes_on,
        ap (λ (m : MatchesValue). m.span.start) step.gives.goes_on,
      );
    }

pub returns-in_err-push-clause-bounded : goal.returns-in_err-push-clause-bounded
returns-in_err-push-clause-bounded g c =
    let seen = g.M.CountedMatches.seen in
    let step = c.in-Some.ensures in
    let part = scans_part_from_yields (seen c.args.matches, c.args.tally.now)
    (c.loop-found.all.items ++ c.in-Some.found ∷ []) (seen c.next_match.new.self, c.next_match.new.tally)
    (omega (arith, ap (λ l. l.most) c.requires.none))
    (Yields-more GivesCounted _ _ _ c.in-Some.found _ c.loop-found.invariant.run
    (record { gives = step.gives; scans = step.scans })) in
    record { others = part.others; most = omega (arith, part.most, ap (λ l. l.most) c.requires.none) }

pub returns-in_err-push-clause-no_memory : goal.returns-in_err-push-clause-no_memory
returns-in_err-push-clause-no_memory g c =
    let first = g.M.CountedMatches.seen c.args.matches in
    let so_far = c.loop-found.invariant in
    let it = g.M.CountedMatches.seen c.loop-found.matches in
    let occurs = leftmost_occurs it.search it.haystack it.span it.at c.in-Some.found so_far.after
    c.in-Some.ensures.gives.leftmost in
    on_err c.from_residual.result _
    (subst (λ (s : SearchValue). ¬ NothingOccurs s.query.patterns s.ignore_case first.haystack first.span)
    so_far.search_is
    (subst (λ (h : List ℕ). ¬ NothingOccurs it.search.query.patterns it.search.ignore_case h first.span)
    so_far.haystack_is
    (subst (λ (s : Span). ¬ NothingOccurs it.search.query.patterns it.search.ignore_case it.haystack s)
    so_far.span_is occurs)))

pub returns-clause-greedy : goal.returns-clause-greedy
returns-clause-greedy g c =
    let seen = g.M.CountedMatches.seen in
    let first = seen c.args.matches in
    let counted = gives_from_counted (first, c.args.tally.now) c.loop-found.all.items
    (seen c.loop-found.matches, c.loop-found.tally) c.loop-found.invariant.run in
    subst (λ (at : ℕ). IsGreedyIn first.search.query first.search.ignore_case first.haystack
    (between at first.span.end) c.loop-found.all.items) c.requires.begins
    (greedy_from_yields first c.loop-found.all.items (seen c.loop-found.matches) (seen c.next_match.new.self) counted
    c.in_default.ensures.gives)

pub returns-clause-bounded : goal.returns-clause-bounded
returns-clause-bounded g c =
    let seen = g.M.CountedMatches.seen in
    let last = c.in_default.ensures in
    let rest = scans_rest_from_yields _ c.loop-found.all.items _ (seen c.next_match.new.self, c.next_match.new.tally)
    c.loop-found.invariant.run (record { gives = last.gives; scans = last.scans }) in
    record { others = rest.others; most = omega (arith, rest.most, ap (λ l. l.most) c.requires.none) }

pub returns-clause-least : goal.returns-clause-least
returns-clause-least g c =
    let seen = g.M.CountedMatches.seen in
    let last = c.in_default.ensures in
    let each = scans_each_from_yields _ c.loop-found.all.items _ (seen c.next_match.new.self, c.next_match.new.tally)
    c.loop-found.invariant.run (record { gives = last.gives; scans = last.scans }) in
    omega (arith, each, ap (λ l. l.least) c.requires.none)
