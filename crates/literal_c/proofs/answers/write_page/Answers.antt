use Rattle.std.proofs.Common.{◌≡◌, ◌<◌, ◌+◌, IfSome, Option, length, drop, sym, ap, ◌∙◌, subst, arith}
use Rattle.std.proofs.lemmas.List.{drop-drop, drop-set-lt}
use Rattle.literal_base.specs.Leftmost.{IsLeftmost, IsLeftmostMatch}
use Rattle.literal_base.specs.MatchValue.{MatchValue}
use Rattle.literal_base.specs.Occurs.{between}
use Rattle.literal_c.specs.Answers.{AreNext, IsPage, MayBeFound, match_of}
use Rattle.literal_c.specs.Inside.Given.{Rest, behind}
use Rattle.literal_c.proofs.lemmas.Pages.{all_more, full_page, last_written, may_be_in_all, one_more}
use Rattle.literal_c.proofs.answers.write_page.Goals as goal

pub loop-place-preserved : goal.loop-place-preserved
loop-place-preserved g c =
    let all = g.M.LeftmostMatches.rest c.args.matches in
    let start = all.span.start in
    let stop = all.span.end in
    let rest = g.M.LeftmostMatches.rest c.loop-place.matches in
    let new_rest = g.M.LeftmostMatches.rest c.next_match.new.self in
    let next = c.loop-place.page.next in
    let i = c.loop-place.place-index in
    let found = c.loop-place.found in
    let it = c.in-Some.it in
    let new = c.match_for_c.result in
    let so_far = c.loop-place.invariant in
    let step = c.in_ok-it.ensures in
    let lt : i < length found = omega arith in
    let may = subst (λ (r : Rest). MayBeFound r.span r.patterns it) so_far.stands
    (subst (λ (o : Option MatchValue). IfSome o (MayBeFound rest.span rest.patterns)) c.in-Some.is step.inside) in
    let goes_on : new_rest ≡ behind rest it.end =
    subst (λ (o : Option MatchValue). IfSome o (λ f. new_rest ≡ behind rest f.end)) c.in-Some.is step.goes_on in
    let is_new = sym c.match_for_c.ensures in
    let end : new.end ≡ c.end.result = ap (λ m. m.end) c.match_for_c.ensures ∙ sym c.end.ensures.end in
    record {
      count = omega arith;
      last = so_far.last;
      stands = goes_on ∙ (ap (λ (r : Rest). behind r it.end) so_far.stands ∙ ap (behind all) (sym c.end.ensures.end));
      after = omega (arith, so_far.after, may.lies.start, may.lies.some, c.end.ensures.end);
      ends = sym end ∙ sym (last_written start i found new lt);
      before = omega (arith, may.lies.end, c.end.ensures.end);
      matches = λ search is.
          let (whole, are_next) = so_far.matches search is in
          let leftmost = subst (λ (r : Rest). IsLeftmostMatch search.query search.ignore_case r.haystack r.span it)
          so_far.stands
          (subst (λ (o : Option MatchValue). IsLeftmost search.query search.ignore_case rest.haystack rest.span o)
          c.in-Some.is (step.found search whole)) in
          let here = subst (λ m. IsLeftmostMatch search.query search.ignore_case all.haystack (between next stop)
          (match_of m)) is_new leftmost in (
            step.same search whole,
            subst (AreNext search.query search.ignore_case all.haystack stop start _) end
                (one_more search.query search.ignore_case all.haystack stop start next i found new lt are_next here),
          );
      inside = all_more (λ m. MayBeFound all.span all.patterns (match_of m)) i found new lt so_far.inside
          (subst (λ m. MayBeFound all.span all.patterns (match_of m)) is_new
          (may_be_in_all start next stop all.patterns it (omega (arith, so_far.after, c.requires.begins)) may));
      others = drop-set-lt (i + 1) found i new (omega arith)
          ∙ (sym (drop-drop 1 i found) ∙ (ap (drop 1) so_far.others ∙ drop-drop 1 i c.args.found.now));
    }

pub returns-in-Some-2-clause-page : goal.returns-in-Some-2-clause-page
returns-in-Some-2-clause-page g c = λ search is.
    let all = g.M.LeftmostMatches.rest c.args.matches in
    let rest = g.M.LeftmostMatches.rest c.loop-place.matches in
    let page = c.loop-place.page in
    let found = c.loop-place.found in
    let it = c.in-Some-2.it in
    let so_far = c.loop-place.invariant in
    let (whole, are_next) = so_far.matches search is in
    let leftmost = subst (λ (r : Rest). IsLeftmostMatch search.query search.ignore_case r.haystack r.span it)
    so_far.stands
    (subst (λ (o : Option MatchValue). IsLeftmost search.query search.ignore_case rest.haystack rest.span o)
    c.in-Some-2.is (c.in_ok-it-2.ensures.found search whole)) in
    subst (λ at. IsPage search.query search.ignore_case all.haystack all.span c.args.found.now found
    (record { written = page.written; next = at; is_last = 0 })) (sym c.start.ensures.start)
    (full_page search.query search.ignore_case all.haystack all.span c.args.found.now found c.loop-place.place-index
    page.written page.next it so_far.count (omega arith) (omega arith) are_next so_far.others leftmost)
