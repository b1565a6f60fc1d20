use Rattle.std.proofs.Common.{◌∙◌, ◌++◌, ◌∷◌, [], List, Some, ap, append-nil, arith, subst, sym, ℕ}
use Rattle.literal_base.specs.MatchValue.{MatchValue}
use Rattle.literal_base.specs.Occurs.{between}
use Rattle.literal_base.specs.declared.search.Span.{Span}
use Rattle.literal_words.specs.Inside.WholeWords.{AreWordsUpTo}
use Rattle.literal_words.proofs.lemmas.WholeWords.{words_next}
use Rattle.literal_search.specs.WholeWords.{AreWholeWords, IsFirstAlone, WholeWordMatchesValue, WholeWordsValue}
use Rattle.literal_search.proofs.whole_words.WholeWords.find_all_in.Goals as goal

pub returns-clause-all : goal.returns-clause-all
returns-clause-all c =
    subst (AreWholeWords c.args.self.now c.args.haystack.now c.args.span) (append-nil c.loop-found.all.items)
    (c.loop-found.invariant.so_far.goes_on _ (grind arith))

pub loop-found-preserved : goal.loop-found-preserved
loop-found-preserved c =
    let words = c.args.self.now in
    let haystack = c.args.haystack.now in
    let span = c.args.span in
    let so_far = c.loop-found.invariant in
    let it = c.loop-found.found-iterator in
    let new = c.next.new.self in
    let found = c.in-Some.found in
    let gives = c.in-Some.ensures.steps in
    let answer = Some found in
    let leftmost = subst (λ (w : WholeWordsValue). IsFirstAlone w haystack (between it.at span.end) answer) so_far.words
    (subst (λ (h : List ℕ). IsFirstAlone it.words h (between it.at span.end) answer) so_far.in_haystack
    (subst (λ (s : Span). IsFirstAlone it.words it.haystack (between it.at s.end) answer) so_far.in_span
    gives.leftmost)) in
    record {
      words = ap (λ (m : WholeWordMatchesValue). m.words) gives.goes_on ∙ so_far.words;
      in_haystack = ap (λ (m : WholeWordMatchesValue). m.haystack) gives.goes_on ∙ so_far.in_haystack;
      in_span = ap (λ (m : WholeWordMatchesValue). m.span) gives.goes_on ∙ so_far.in_span;
      so_far = subst (λ (all : List MatchValue). AreWordsUpTo words haystack span all new.at)
          (sym c.in_ok-push.ensures.items)
          (subst (λ at. AreWordsUpTo words haystack span (c.loop-found.all.items ++ found ∷ []) at)
          (sym (ap (λ (m : WholeWordMatchesValue). m.at) gives.goes_on))
          (words_next words haystack span c.loop-found.all.items it.at found so_far.so_far leftmost gives.not_empty));
    }
