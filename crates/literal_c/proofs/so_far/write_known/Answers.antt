use Rattle.std.proofs.Common.{◌≡◌, ◌<◌, ◌+◌, ◌-◌, ◌≤◌, ◌++◌, IfSome, Option, length, drop, map, max, take}
use Rattle.std.proofs.Common.{sym, ap, ◌∙◌, subst, arith}
use Rattle.std.proofs.lemmas.List.{drop-drop, drop-set-lt, set-get_or}
use Rattle.literal_base.specs.Leftmost.{IsLeftmost, IsLeftmostMatch}
use Rattle.literal_base.specs.MatchValue.{MatchValue}
use Rattle.literal_base.specs.Occurs.{between}
use Rattle.literal_search.specs.SearchValue.{longest_of}
use Rattle.literal_c.specs.Answers.{AreNext, BeginsNone, MayBeFound, match_of}
use Rattle.literal_c.specs.Inside.Given.{Rest, behind}
use Rattle.literal_c.specs.Inside.SoFar.{IsUnknown}
use Rattle.literal_c.specs.SoFar.{deciding_len}
use Rattle.literal_c.specs.declared.LiteralMatch.{LiteralMatch}
use Rattle.literal_c.proofs.lemmas.Pages.{all_more, last_written, may_be_in_all, one_more, up_to}
use Rattle.literal_c.proofs.lemmas.SoFar.{leftmost_known, none_known}
use Rattle.literal_c.proofs.so_far.write_known.Goals as goal

pub returns-in_default-clause-matches : goal.returns-in_default-clause-matches
returns-in_default-clause-matches g c = λ search more is decide follows may.
    let all = g.M.LeftmostMatches.rest c.args.matches in
    let rest = g.M.LeftmostMatches.rest c.loop-place.matches in
    let next = c.loop-place.page.next in
    let found = c.loop-place.found in
    let text = all.haystack ++ follows in
    let so_far = c.loop-place.invariant in
    let answer = c.in_ok-next_match.field-0 in
    let stop : all.span.end ≡ length all.haystack = ap (λ s. s.end) c.requires.begins ∙ c.requires.whole in
    let leftmost : IsLeftmost search.query search.ignore_case all.haystack (between next (length all.haystack)) answer =
    subst (λ e. IsLeftmost search.query search.ignore_case all.haystack (between next e) answer) stop
    (subst (λ (r : Rest). IsLeftmost search.query search.ignore_case r.haystack r.span answer) so_far.stands
    (c.in_ok-next_match.ensures.found search (so_far.same search is))) in
    let unknown : IsUnknown answer (length all.haystack) (deciding_len more (longest_of search.query.patterns)) =
    subst (IsUnknown answer (length all.haystack)) decide
    (subst (λ e. IsUnknown answer e c.args.deciding) c.requires.whole c.in_default.ensures) in
    let none = none_known search.query search.ignore_case more all.haystack follows next answer may
    (omega (arith, so_far.before, c.requires.whole)) unknown leftmost in
    let last : max next (length all.haystack - (deciding_len more (longest_of search.query.patterns) - 1))
    ≡ c.max.result = omega (arith, decide, c.requires.whole) in
    rw set-get_or (subst (λ written. AreNext search.query search.ignore_case text (length text) c.args.start
    (map match_of (take written found)) c.max.result) (sym so_far.count)
    (up_to search.query search.ignore_case text (length text) c.args.start next c.max.result
    (map match_of (take c.loop-place.place-index found)) (so_far.matches search more is decide follows may)
    (subst (BeginsNone search.query search.ignore_case text (length text) next) last none)))

pub loop-place-preserved : goal.loop-place-preserved
loop-place-preserved g c =
    let all = g.M.LeftmostMatches.rest c.args.matches in
    let rest = g.M.LeftmostMatches.rest c.loop-place.matches in
    let new_rest = g.M.LeftmostMatches.rest c.next_match.new.self in
    let start = c.args.start in
    let next = c.loop-place.page.next in
    let i = c.loop-place.place-index in
    let found = c.loop-place.found in
    let it = c.in-Some.it in
    let new = c.match_for_c.result in
    let so_far = c.loop-place.invariant in
    let step = c.in_ok-next_match.ensures in
    let known_it = c.in-Some.ensures in
    let lt : i < length found = omega arith in
    let stop : all.span.end ≡ c.args.end = ap (λ s. s.end) c.requires.begins in
    let may = subst (λ (r : Rest). MayBeFound r.span r.patterns it) so_far.stands
    (subst (λ (o : Option MatchValue). IfSome o (MayBeFound rest.span rest.patterns)) known_it.0 step.inside) in
    let goes_on : new_rest ≡ behind rest it.end =
    subst (λ (o : Option MatchValue). IfSome o (λ f. new_rest ≡ behind rest f.end)) known_it.0 step.goes_on in
    let is_new = sym c.match_for_c.ensures in
    let end : new.end ≡ c.end.result = ap (λ m. m.end) c.match_for_c.ensures ∙ sym c.end.ensures.end in
    record {
      count = omega arith;
      first = so_far.first;
      stands = goes_on ∙ (ap (λ (r : Rest). behind r it.end) so_far.stands ∙ ap (behind all) (sym c.end.ensures.end));
      after = omega (arith, so_far.after, may.lies.start, may.lies.some, c.end.ensures.end);
      ends = sym end ∙ sym (last_written start i found new lt);
      before = omega (arith, may.lies.end, stop, c.end.ensures.end);
      same = λ search is. step.same search (so_far.same search is);
      matches = λ search more is decide follows may_follow.
          let text = all.haystack ++ follows in
          let leftmost : IsLeftmostMatch search.query search.ignore_case all.haystack
          (between next (length all.haystack)) it =
          subst (λ e. IsLeftmostMatch search.query search.ignore_case all.haystack (between next e) it)
          (stop ∙ c.requires.whole)
          (subst (λ (r : Rest). IsLeftmostMatch search.query search.ignore_case r.haystack r.span it) so_far.stands
          (subst (λ (o : Option MatchValue). IsLeftmost search.query search.ignore_case rest.haystack rest.span o)
          known_it.0 (step.found search (so_far.same search is)))) in
          let known = leftmost_known search.query search.ignore_case more all.haystack follows next it may_follow
          (omega (arith, known_it.1, decide, c.requires.whole)) leftmost in
          let here = subst (λ m. IsLeftmostMatch search.query search.ignore_case text (between next (length text))
          (match_of m)) is_new known in
          subst (AreNext search.query search.ignore_case text (length text) start _) end
          (one_more search.query search.ignore_case text (length text) start next i found new lt
          (so_far.matches search more is decide follows may_follow) here);
      known = all_more (λ m. m.start + c.args.deciding ≤ c.args.end) i found new lt so_far.known
          (subst (λ (m : LiteralMatch). m.start + c.args.deciding ≤ c.args.end) is_new known_it.1);
      inside = all_more (λ m. MayBeFound all.span all.patterns (match_of m)) i found new lt so_far.inside
          (subst (λ m. MayBeFound all.span all.patterns (match_of m)) is_new
          (may_be_in_all all.span.start next all.span.end all.patterns it
          (omega (arith, so_far.after, ap (λ s. s.start) c.requires.begins)) may));
      others = drop-set-lt (i + 1) found i new (omega arith)
          ∙ (sym (drop-drop 1 i found) ∙ (ap (drop 1) so_far.others ∙ drop-drop 1 i c.args.found.now));
    }
