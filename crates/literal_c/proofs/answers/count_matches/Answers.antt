use Rattle.std.proofs.Common.{◌≡◌, ◌++◌, ◌∷◌, ◌∙◌, [], IfSome, Option, ap, arith, subst, sym}
use Rattle.std.proofs.lemmas.List.{length-append}
use Rattle.literal_base.specs.Leftmost.{IsLeftmost, IsLeftmostMatch}
use Rattle.literal_base.specs.MatchValue.{MatchValue}
use Rattle.literal_base.specs.Occurs.{NothingOccurs}
use Rattle.literal_c.specs.Answers.{AreNext, MayBeFound}
use Rattle.literal_c.specs.Inside.Given.{Rest, behind}
use Rattle.literal_c.proofs.lemmas.Pages.{joined, none_here}
use Rattle.literal_c.proofs.answers.count_matches.Goals as goal

pub loop-matches-preserved : goal.loop-matches-preserved
loop-matches-preserved g c =
    let all = g.M.LeftmostMatches.rest c.args.matches in
    let start = all.span.start in
    let stop = all.span.end in
    let rest = g.M.LeftmostMatches.rest c.loop-matches.matches in
    let next = rest.span.start in
    let new_rest = g.M.LeftmostMatches.rest c.next_match.new.self in
    let it = c.in-Some.field-0 in
    let so_far = c.loop-matches.invariant in
    let step = c.in_ok-next_match.ensures in
    let may = subst (λ (r : Rest). MayBeFound r.span r.patterns it) so_far.stands
    (subst (λ (o : Option MatchValue). IfSome o (MayBeFound rest.span rest.patterns)) c.in-Some.is step.inside) in
    let goes_on : new_rest ≡ behind rest it.end =
    subst (λ (o : Option MatchValue). IfSome o (λ f. new_rest ≡ behind rest f.end)) c.in-Some.is step.goes_on in
    let at : new_rest.span.start ≡ it.end = ap (λ (r : Rest). r.span.start) goes_on in
    record {
      stands = goes_on ∙ (ap (λ (r : Rest). behind r it.end) so_far.stands ∙ ap (behind all) (sym at));
      few = omega (arith, so_far.few, may.lies.start, may.lies.some, at);
      most = omega (arith, so_far.few, may.lies.start, may.lies.some, may.lies.end);
      counted = λ search is.
          let (whole, found, are_next, count) = so_far.counted search is in
          let leftmost = subst (λ (r : Rest). IsLeftmostMatch search.query search.ignore_case r.haystack r.span it)
          so_far.stands
          (subst (λ (o : Option MatchValue). IsLeftmost search.query search.ignore_case rest.haystack rest.span o)
          c.in-Some.is (step.found search whole)) in (
            step.same search whole,
            found ++ it ∷ [],
            subst (AreNext search.query search.ignore_case all.haystack stop start (found ++ it ∷ [])) (sym at)
                (joined search.query search.ignore_case all.haystack stop start next it.end found (it ∷ []) are_next
                (leftmost, none_here search.query search.ignore_case all.haystack stop it.end)),
            omega (arith, count, length-append found (it ∷ [])),
          );
    }

pub returns-clause-count : goal.returns-clause-count
returns-clause-count g c = λ search is.
    let rest = g.M.LeftmostMatches.rest c.loop-matches.matches in
    let (whole, found, are_next, count) = c.loop-matches.invariant.counted search is in
    let none = subst (λ (r : Rest). NothingOccurs search.query.patterns search.ignore_case r.haystack r.span)
    c.loop-matches.invariant.stands
    (subst (λ (o : Option MatchValue). IsLeftmost search.query search.ignore_case rest.haystack rest.span o)
    c.in_default.is (c.in_ok-next_match.ensures.found search whole)) in
    (found, rest.span.start, are_next, none, count)
