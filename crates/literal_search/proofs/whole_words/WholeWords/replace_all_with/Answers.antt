use Rattle.std.proofs.Common.{◌∙◌, append-nil, ap, arith, of_calls, refl, rules, subst, sym}
use Rattle.std.proofs.lemmas.Fn.{FoldsTo-push}
use Rattle.literal_base.specs.Occurs.{whole_of}
use Rattle.literal_words.specs.Inside.WholeWords.{AreWordsUpTo}
use Rattle.literal_search.specs.WholeWords.{AreWholeWords, WholeWordMatchesValue}
use Rattle.literal_search.proofs.lemmas.ReplacedWords.{word_at}
use Rattle.literal_words.proofs.lemmas.WholeWords.{words_next}
use Rattle.literal_search.proofs.whole_words.WholeWords.replace_all_with.Goals as goal

pub loop-found-init : goal.loop-found-init
loop-found-init g c = record {
  words_is = search rules;
  haystack_is = search rules;
  span_is = search rules;
  at_is = search rules;
  so_far = grind arith;
  empty = λ _. grind arith;
  callable = c.requires;
  first = record { writer = c.args.write; text = c.new-text.result; at = 0 };
  begins = (refl, c.new-text.ensures.items, refl);
  is_written = refl;
}

pub returns-clause-ok : goal.returns-clause-ok
returns-clause-ok g c =
    let so_far = c.loop-found.invariant in record {
      matches = c.loop-found.yielded;
      are_words = subst (AreWholeWords c.args.self.now c.args.haystack.now (whole_of c.args.haystack.now))
          (append-nil c.loop-found.yielded) (so_far.so_far.goes_on _
          (word_at so_far.words_is so_far.haystack_is so_far.haystack_is so_far.span_is so_far.at_is
          c.in-None.ensures.steps));
      first = so_far.first;
      last = record { writer = c.loop-found.write; text = c.loop-found.text; at = c.loop-found.at };
      begins = so_far.begins;
      is_written = so_far.is_written;
      ends = c.in_ok-extend_from_slice-2.ensures.items;
    }

pub loop-found-preserved : goal.loop-found-preserved
loop-found-preserved g c =
    let so_far = c.loop-found.invariant in
    let found = c.in-Some.found in
    let step = c.in-Some.ensures.steps in
    let first = word_at so_far.words_is so_far.haystack_is so_far.haystack_is so_far.span_is so_far.at_is step in
    record {
      words_is = ap (λ (m : WholeWordMatchesValue). m.words) step.goes_on ∙ so_far.words_is;
      haystack_is = ap (λ (m : WholeWordMatchesValue). m.haystack) step.goes_on ∙ so_far.haystack_is;
      span_is = ap (λ (m : WholeWordMatchesValue). m.span) step.goes_on ∙ so_far.span_is;
      at_is = ap (λ (m : WholeWordMatchesValue). m.at) step.goes_on ∙ sym c.end-at.ensures.end;
      so_far = subst (AreWordsUpTo c.args.self.now c.args.haystack.now (whole_of c.args.haystack.now) _)
          (sym c.end-at.ensures.end)
          (words_next c.args.self.now c.args.haystack.now (whole_of c.args.haystack.now) c.loop-found.yielded
          c.loop-found.at found so_far.so_far first step.not_empty);
      empty = λ none. absurd (omega (arith, none, step.not_empty, first.whole, first.occurs.occurs.before_end));
      callable = search of_calls;
      first = so_far.first;
      begins = so_far.begins;
      is_written = FoldsTo-push _ so_far.first c.loop-found.yielded _ found _ so_far.is_written (record {
        bytes = _;
        before = _;
        behind = _;
        are_matched = search rules;
        between = search rules;
        calls = c.in_ok-write.ensures;
        leaves = refl;
        goes_on = search rules;
      });
    }
