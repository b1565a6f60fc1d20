use Rattle.std.proofs.Common.{◌∙◌, ap, refl, subst, sym}
use Rattle.literal_base.specs.Occurs.{between}
use Rattle.literal_search.specs.PreparedOverlapping.{ForOverlapping, IsPreparedOverlapping}
use Rattle.literal_search.specs.PreparedOverlapping.{PreparedOverlappingMatchesValue, matches_for}
use Rattle.literal_c.specs.Overlapping.{all_that_occurs}
use Rattle.literal_c.proofs.lemmas.Statuses.{damaged, some_room}
use Rattle.literal_c.proofs.occurrences.literal_find_overlapping_in.Goals as goal

pub returns-in-Err-clause-status : goal.returns-in-Err-clause-status
returns-in-Err-clause-status c =
    damaged _ (λ P. ForOverlapping c.args.prepared.now (λ _. P)) _ _ (
      record { ordered = c.if-start-end.false; in_haystack = c.if-end-haystack.false },
      some_room c.args.found.now c.if-is_empty.ensures,
    )
    (λ search is _. c.in-Err.ensures.page
    (all_that_occurs search c.args.haystack.now (between c.args.start c.args.end)) (
      subst (IsPreparedOverlapping search)
          (sym (ap (λ (v : PreparedOverlappingMatchesValue). v.numbers) c.find_overlapping_in-matches.ensures
          ∙ c.in-Ok.ensures.0))
          is,
      sym (ap (matches_for search) c.find_overlapping_in-matches.ensures),
    )
    refl)

pub returns-in-Ok-write_overlapping-clause-page : goal.returns-in-Ok-write_overlapping-clause-page
returns-in-Ok-write_overlapping-clause-page c = λ search is _.
    c.in-Ok-write_overlapping.ensures.page
    (all_that_occurs search c.args.haystack.now (between c.args.start c.args.end)) (
      subst (IsPreparedOverlapping search)
          (sym (ap (λ (v : PreparedOverlappingMatchesValue). v.numbers) c.find_overlapping_in-matches.ensures
          ∙ c.in-Ok.ensures.0))
          is,
      sym (ap (matches_for search) c.find_overlapping_in-matches.ensures),
    )
    refl
