use Rattle.std.proofs.Common.{◌<◌, ◌+◌, IfSome, Option, Some, inr, length, drop, sym, ap, ◌∙◌, subst, arith}
use Rattle.std.proofs.lemmas.List.{drop-drop, drop-set-lt}
use Rattle.literal_base.specs.MatchValue.{MatchValue}
use Rattle.literal_search.specs.OverlappingMatchesValue.{GivesOverlapping, gone_on}
use Rattle.literal_c.specs.Answers.{match_of}
use Rattle.literal_c.proofs.lemmas.Pages.{all_more, given_more}
use Rattle.literal_c.proofs.answers.write_overlapping.Goals as goal

pub loop-place-preserved : goal.loop-place-preserved
loop-place-preserved g c =
    let i = c.loop-place.place-index in
    let found = c.loop-place.found in
    let it = c.in-Some.it in
    let new = c.match_for_c.result in
    let so_far = c.loop-place.invariant in
    let lt : i < length found = omega arith in
    let is_new = sym c.match_for_c.ensures in
    let may = so_far.keeps it
    (subst (λ (o : Option MatchValue). IfSome o (g.M.Occurrences.may_give c.loop-place.matches)) c.in-Some.is
    c.in_ok-it.ensures.inside) in
    record {
      count = omega arith;
      last = so_far.last;
      given = λ m stands begins.
          let before = so_far.given m stands begins in
          let after = subst (λ (o : Option MatchValue). GivesOverlapping before.0 o (gone_on before.0 o)
          × g.M.Occurrences.stands_at c.next_match.new.self (gone_on before.0 o)) c.in-Some.is
          (c.in_ok-it.ensures.found before.0 before.1) in (
            gone_on before.0 (Some it),
            after.1,
            c.end.ensures.end,
            given_more m found i new before.0 (gone_on before.0 (Some it)) lt before.3
                (subst (λ k. GivesOverlapping before.0 (Some (match_of k)) (gone_on before.0 (Some it))) is_new
                after.0),
          );
      keeps = λ f given. so_far.keeps f (c.in_ok-it.ensures.same f given);
      matches = all_more (λ m. g.M.Occurrences.may_give c.args.matches (match_of m)) i found new lt so_far.matches
          (subst (λ m. g.M.Occurrences.may_give c.args.matches (match_of m)) is_new may);
      reached = inr (it, may, c.end.ensures.end);
      others = drop-set-lt (i + 1) found i new (omega arith)
          ∙ (sym (drop-drop 1 i found) ∙ (ap (drop 1) so_far.others ∙ drop-drop 1 i c.args.found.now));
    }
