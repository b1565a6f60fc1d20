use Rattle.std.proofs.Common.{◌∙◌, ap, refl, subst}
use Rattle.literal_base.specs.Occurs.{between}
use Rattle.literal_search.specs.Overlapping.{OverlappingValue}
use Rattle.literal_search.specs.OverlappingMatchesValue.{OverlappingMatchesValue}
use Rattle.literal_c.specs.Overlapping.{IsOverlappingPage, all_that_occurs}
use Rattle.literal_c.proofs.lemmas.Statuses.{done, some_room}
use Rattle.literal_c.proofs.occurrences.literal_find_overlapping.Goals as goal

pub returns-clause-status : goal.returns-clause-status
returns-clause-status c =
    done _ _ _ (
      c.in-Ok.ensures.0,
      record { ordered = c.if-start-end.false; in_haystack = c.if-end-haystack.false },
      some_room c.args.found.now c.if-is_empty.ensures,
    )
    c.in-Ok.ensures.1

pub returns-clause-page : goal.returns-clause-page
returns-clause-page c = λ _.
    let given = c.find_overlapping_in-matches in
    let page = c.in-Ok-write_overlapping.ensures.page given.result refl
    (ap (λ (m : OverlappingMatchesValue). m.end) given.ensures) in
    let first = given.ensures
    ∙ ap (λ (s : OverlappingValue). all_that_occurs s c.args.haystack.now (between c.args.start c.args.end))
    c.in-Ok.ensures.2 in
    subst (λ (m : OverlappingMatchesValue). IsOverlappingPage m c.args.found.now c.write_overlapping.new.found
    c.in-Ok-write_overlapping.written) first page

pub returns-in-Err-write_overlapping-clause-status : goal.returns-in-Err-write_overlapping-clause-status
returns-in-Err-write_overlapping-clause-status c =
    absurd (c.in-Err-write_overlapping.ensures.page c.find_overlapping_in-matches.result refl
    (ap (λ (m : OverlappingMatchesValue). m.end) c.find_overlapping_in-matches.ensures))

pub returns-in-Err-write_overlapping-clause-as_before : goal.returns-in-Err-write_overlapping-clause-as_before
returns-in-Err-write_overlapping-clause-as_before c =
    absurd (c.in-Err-write_overlapping.ensures.page c.find_overlapping_in-matches.result refl
    (ap (λ (m : OverlappingMatchesValue). m.end) c.find_overlapping_in-matches.ensures))
