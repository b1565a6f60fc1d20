use Rattle.std.proofs.Common.{◌≡◌, ◌∙◌, ◌-◌, ap, arith, refl, subst, sym}
use Rattle.std.specs.Prelude.{max}
use Rattle.literal_base.specs.Occurs.{between}
use Rattle.literal_search.specs.PreparedOverlapping.{ForOverlapping, IsPreparedOverlapping}
use Rattle.literal_search.specs.PreparedOverlapping.{PreparedOverlappingMatchesValue}
use Rattle.literal_search.specs.SearchValue.{longest_of}
use Rattle.literal_c.specs.Inside.Resumed.{IsResumed, ResumedValue}
use Rattle.literal_c.specs.Overlapping.{occurrences_from}
use Rattle.literal_c.proofs.lemmas.Resumed.{resumes}
use Rattle.literal_c.proofs.lemmas.Statuses.{damaged, some_room}
use Rattle.literal_c.proofs.occurrences.literal_find_overlapping_from_in.Goals as goal

pub returns-in-Err-clause-status : goal.returns-in-Err-clause-status
returns-in-Err-clause-status c =
    damaged _ (λ P. ForOverlapping c.args.prepared.now (λ _. P)) _ _ (
      record { ordered = c.if-start-end.false; in_haystack = c.if-end-haystack.false },
      c.if-next-start.false,
      c.if-next-end.false,
      some_room c.args.found.now c.if-is_empty.ensures,
    )
    (λ search is _.
    let asked = c.args in
    let from_is : c.max-from.result ≡ max asked.start (asked.next - longest_of search.patterns) =
    omega (arith, c.max-from.ensures, c.saturating_sub.ensures, is.longest) in
    let given = subst (IsPreparedOverlapping search) (sym c.in-Ok.ensures.0) is in
    let matches = ap (λ (v : PreparedOverlappingMatchesValue). record {
      matches = v;
      end = asked.next;
      pattern = asked.pattern;
    }) c.find_overlapping_in-matches.ensures in
    let first = occurrences_from search asked.haystack.now (between asked.start asked.end) asked.next asked.pattern in
    let stands = subst (λ (r : ResumedValue). IsResumed r first) (sym (c.new-2.ensures ∙ matches))
    (resumes search _ asked.haystack.now asked.start asked.end asked.next asked.pattern c.max-from.result
    c.if-next-start.false from_is given) in
    c.in-Err.ensures.page first stands refl)

pub returns-in-Ok-write_overlapping-clause-page : goal.returns-in-Ok-write_overlapping-clause-page
returns-in-Ok-write_overlapping-clause-page c = λ search is _.
    let asked = c.args in
    let from_is : c.max-from.result ≡ max asked.start (asked.next - longest_of search.patterns) =
    omega (arith, c.max-from.ensures, c.saturating_sub.ensures, is.longest) in
    let given = subst (IsPreparedOverlapping search) (sym c.in-Ok.ensures.0) is in
    let matches = ap (λ (v : PreparedOverlappingMatchesValue). record {
      matches = v;
      end = asked.next;
      pattern = asked.pattern;
    }) c.find_overlapping_in-matches.ensures in
    let first = occurrences_from search asked.haystack.now (between asked.start asked.end) asked.next asked.pattern in
    let stands = subst (λ (r : ResumedValue). IsResumed r first) (sym (c.new-2.ensures ∙ matches))
    (resumes search _ asked.haystack.now asked.start asked.end asked.next asked.pattern c.max-from.result
    c.if-next-start.false from_is given) in
    c.in-Ok-write_overlapping.ensures.page first stands refl
