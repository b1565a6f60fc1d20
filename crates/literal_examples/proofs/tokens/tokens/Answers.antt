use Rattle.literal_base.specs.declared.search.Span.{Span}
use Rattle.std.proofs.Common.{refl, Some, ◌<◌, ◌≤◌, ◌≡◌, ◌++◌, ◌∷◌, [], length, List, sym, ap, subst}
use Rattle.std.proofs.Common.{◌∙◌, arith}
use Rattle.literal_base.specs.Greedy.{IsGreedy}
use Rattle.literal_search.proofs.lemmas.Callers.{greedy_from_matches, matches_go_on}
use Rattle.literal_examples.specs.Tokens.{GapsAreWhole, Tiles, gap, match_in, matched}
use Rattle.literal_examples.specs.declared.tokens.Token.{Token}
use Rattle.literal_examples.proofs.lemmas.Tokens.{tiles_push, tiles_gap, matched-append, matched-gap, whole_gap}
use Rattle.literal_examples.proofs.lemmas.Tokens.{whole_push}
use Rattle.literal_examples.proofs.tokens.tokens.Goals as goal

pub loop-found-preserved : goal.loop-found-preserved
loop-found-preserved c =
    let finds = c.in-Some.ensures.steps in
    let found = c.in-Some.found in
    let so_far = c.loop-found.invariant in
    let all = c.loop-found.all.items in
    let at = c.loop-found.at in
    let start_is = c.start.ensures.start in
    let span_is = c.span.ensures.span in
    let token : Token = record { span = c.span.result; pattern = Some c.pattern.result } in
    let ordered : at ≤ c.start.result = omega (arith, finds.leftmost.occurs.after_start) in
    let pushed = c.in_ok-push.ensures.items ∙ ap (λ ts. ts ++ token ∷ []) c.in_ok-push_gap.ensures.ok in
    let starts = ap (λ (s : Span). s.start) span_is in
    let ends = ap (λ (s : Span). s.end) span_is in
    let end_is : c.span.result.end ≡ c.end-at.result = omega (arith, c.end-at.ensures.end) in
    let some : c.start.result < c.span.result.end = omega (arith, finds.not_empty) in
    let tiled = tiles_push 0 c.start.result (all ++ gap at c.start.result) token
    (tiles_gap 0 at c.start.result all so_far.tiles ordered) (omega arith) some in
    let is_found : match_in c.span.result (Some c.pattern.result) ≡ found ∷ [] =
    rw (c.pattern.ensures, span_is) refl in
    record {
      from = matches_go_on so_far.from c.end-at.ensures.end finds;
      tiles = subst (λ (ts : List Token). Tiles 0 c.end-at.result ts) (sym pushed)
          (subst (λ e. Tiles 0 e ((all ++ gap at c.start.result) ++ token ∷ [])) end_is tiled);
      matched_are = ap matched pushed ∙ (matched-append (all ++ gap at c.start.result) (token ∷ [])
          ∙ (ap (λ ms. ms ++ (match_in c.span.result (Some c.pattern.result) ++ []))
          (matched-gap at c.start.result all ∙ so_far.matched_are)
          ∙ ap (λ ms. c.loop-found.yielded ++ (ms ++ [])) is_found));
      whole = λ next. subst (λ (ts : List Token). GapsAreWhole (ts ++ next ∷ [])) (sym pushed)
          (whole_push (all ++ gap at c.start.result) token refl (whole_gap at c.start.result all so_far.whole) next);
    }

pub returns-clause-tiles : goal.returns-clause-tiles
returns-clause-tiles c =
    subst (λ (ts : List Token). Tiles 0 (length c.args.haystack.now) ts) (sym c.in_ok-push_gap-2.ensures.ok)
    (tiles_gap 0 c.loop-found.at _ c.loop-found.all.items c.loop-found.invariant.tiles
    c.loop-found.invariant.from.within)

pub returns-clause-matched : goal.returns-clause-matched
returns-clause-matched c =
    let matched_are = ap matched c.in_ok-push_gap-2.ensures.ok
    ∙ (matched-gap c.loop-found.at _ c.loop-found.all.items ∙ c.loop-found.invariant.matched_are) in
    subst (IsGreedy c.args.search.now.query c.args.search.now.ignore_case c.args.haystack.now 0) (sym matched_are)
    (greedy_from_matches c.args.search.now c.args.haystack.now _ _ _ _ (cc) c.loop-found.yielded_by
    c.in-None.ensures.steps)

pub returns-clause-whole : goal.returns-clause-whole
returns-clause-whole c =
    subst GapsAreWhole (sym c.in_ok-push_gap-2.ensures.ok)
    (whole_gap c.loop-found.at _ c.loop-found.all.items c.loop-found.invariant.whole)
