use Rattle.std.proofs.Common.{◌≡◌, ℕ, List, ◌+◌, ◌++◌, ◌∷◌, [], length, take, refl, ap, ◌∙◌, sym, arith}
use Rattle.std.proofs.lemmas.Bool.{false≢true}
use Rattle.std.proofs.lemmas.List.{length_push}
use Rattle.std.proofs.lemmas.List.Elements.{All-push}
use Rattle.literal_base.specs.Counts.{Counts}
use Rattle.literal_base.specs.Occurs.{StandsAt, pattern_at}
use Rattle.literal_packed.proofs.lemmas.IteratedPatterns.{head_below, split_next, split_more}
use Rattle.literal_prefilters.proofs.lemmas.BestAt.{best_from_front, none_from_all, given_at_most, compared_up_to}
use Rattle.literal_prefilters.proofs.prefilter.confirming.best_at.Goals as goal

pub matches_at-requires-clause-is_pattern : goal.matches_at-requires-clause-is_pattern
matches_at-requires-clause-is_pattern c =
    head_below c.args.patterns.now c.iter-id-items.ensures.well_formed _ _ _
    (split_next c.loop-id.yielded c.loop-id.invariant.split c.in-Some.ensures.steps)

pub returns-then-matches_at-clause-best : goal.returns-then-matches_at-clause-best
returns-then-matches_at-clause-best c =
    best_from_front c.args.patterns.now c.args.ignore_case (take c.args.span.end c.args.haystack.now) c.args.at
    c.iter-id-items.ensures.well_formed c.requires.in_order _ _ _
    (split_next c.loop-id.yielded c.loop-id.invariant.split c.in-Some.ensures.steps) c.loop-id.invariant.none
    (c.if-matches_at.ensures.stands.0 refl)

pub returns-then-matches_at-clause-exact : goal.returns-then-matches_at-clause-exact
returns-then-matches_at-clause-exact c =
    let old = c.args.tally.now in
    let up_to = compared_up_to c.args.patterns.now c.iter-id-items.ensures.well_formed c.requires.in_order
    c.loop-id.yielded _ (c.in-Some.id, c.in-Some.field-0-1)
    (split_next c.loop-id.yielded c.loop-id.invariant.split c.in-Some.ensures.steps) in
    let step : Counts → Counts = λ t. record t { compared = t.compared + 1 } in
    c.matches_at.ensures.exact ∙ (ap step c.loop-id.invariant.counted
    ∙ ap (λ k. record old { compared = k }) (omega (arith, up_to)))

pub loop-id-preserved : goal.loop-id-preserved
loop-id-preserved c =
    let old = c.args.tally.now in
    let yielded = c.loop-id.yielded in
    let x : ℕ × List ℕ = (c.in-Some.id, c.in-Some.field-0-1) in
    let step : Counts → Counts = λ t. record t { compared = t.compared + 1 } in
    let f : ℕ → Counts = λ k. record old { compared = k } in
    let e : old.compared + length yielded + 1 ≡ old.compared + length (yielded ++ x ∷ []) = omega
    (arith, length_push yielded x) in
    record {
      split = split_more c.loop-id.yielded c.loop-id.invariant.split c.in-Some.ensures.steps;
      none = All-push (λ p. ¬ StandsAt c.args.ignore_case (pattern_at c.args.patterns.now.patterns p.0)
          (take c.args.span.end c.args.haystack.now) c.args.at) _ _ c.loop-id.invariant.none
          (λ stands. false≢true (c.if-matches_at.ensures.stands.1 stands));
      counted = c.matches_at.ensures.exact ∙ (ap step c.loop-id.invariant.counted ∙ ap f e);
    }

pub returns-clause-best : goal.returns-clause-best
returns-clause-best c =
    none_from_all c.args.patterns.now c.args.ignore_case (take c.args.span.end c.args.haystack.now) c.args.at
    c.iter-id-items.ensures.well_formed _ (ap (λ ps. c.loop-id.yielded ++ ps) (sym c.in-None.ensures.steps.0)
    ∙ c.loop-id.invariant.split) c.loop-id.invariant.none

pub returns-clause-exact : goal.returns-clause-exact
returns-clause-exact c =
    let old = c.args.tally.now in
    let all = given_at_most c.args.patterns.now c.args.ignore_case (take c.args.span.end c.args.haystack.now)
    c.args.at c.iter-id-items.ensures.well_formed c.loop-id.yielded []
    (ap (λ ps. c.loop-id.yielded ++ ps) (sym c.in-None.ensures.steps.0) ∙ c.loop-id.invariant.split) in
    c.loop-id.invariant.counted ∙ ap (λ k. record old { compared = k }) (omega (arith, all))
