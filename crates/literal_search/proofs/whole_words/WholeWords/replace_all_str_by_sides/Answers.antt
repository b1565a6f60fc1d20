use Rattle.std.proofs.Common.{◌∙◌, IsCharBoundary, ap, arith, rules, slice_range, string_bytes, subst, sym}
use Rattle.std.proofs.lemmas.List.{take_rest}
use Rattle.std.proofs.lemmas.Str.{IsCharBoundary-start}
use Rattle.literal_search.proofs.lemmas.Replaced.{replacement_at}
use Rattle.literal_search.proofs.lemmas.ReplacedWords.{next_word, word_refused, word_refused_behind, word_written}
use Rattle.literal_search.proofs.lemmas.ReplacedWords.{words_written}
use Rattle.literal_search.proofs.lemmas.Texts.{word_between}
use Rattle.literal_search.proofs.whole_words.WholeWords.replace_all_str_by_sides.Goals as goal

pub returns-in_err-push_str-clause-error : goal.returns-in_err-push_str-clause-error
returns-in_err-push_str-clause-error c =
    let refused = word_refused c.loop-found.invariant.written c.in-Some.ensures.steps
    (omega (arith, c.if-replacements-patterns_len.false, c.patterns_len.ensures.len))
    c.patterns_len.ensures.patterns.some (grind (arith, slice_range)) in
    search (rules, refused)

pub returns-in_err-push_str-2-clause-error : goal.returns-in_err-push_str-2-clause-error
returns-in_err-push_str-2-clause-error c =
    let refused = word_refused c.loop-found.invariant.written c.in-Some.ensures.steps
    (omega (arith, c.if-replacements-patterns_len.false, c.patterns_len.ensures.len))
    c.patterns_len.ensures.patterns.some (grind (arith, slice_range, replacement_at)) in
    search (rules, refused)

pub returns-in_err-push_str-3-clause-error : goal.returns-in_err-push_str-3-clause-error
returns-in_err-push_str-3-clause-error c =
    let refused = word_refused_behind c.loop-found.invariant.written c.in-None.ensures.steps
    (omega (arith, c.if-replacements-patterns_len.false, c.patterns_len.ensures.len)) (grind (arith, take_rest)) in
    search (rules, refused)

pub returns-clause-ok : goal.returns-clause-ok
returns-clause-ok c =
    words_written c.loop-found.invariant.written c.in-None.ensures.steps
    (omega (arith, c.if-replacements-patterns_len.false, c.patterns_len.ensures.len)) _
    (grind (arith, string_bytes, take_rest))

pub range-requires-clause-end_boundary : goal.range-requires-clause-end_boundary
range-requires-clause-end_boundary c =
    subst (IsCharBoundary c.args.haystack.now) (sym c.start.ensures.start)
    (word_between c.args.self.now c.args.haystack.now c.args.sides.now c.loop-found.at c.in-Some.found
    (next_word c.loop-found.invariant.written c.in-Some.ensures.steps) c.requires.texts
    c.patterns_len.ensures.patterns.some c.utf8.haystack).0

pub loop-found-init : goal.loop-found-init
loop-found-init c = grind (arith, IsCharBoundary-start)

pub loop-found-preserved : goal.loop-found-preserved
loop-found-preserved c =
    let written = c.loop-found.invariant.written in
    record {
      written = word_written written c.in-Some.ensures.steps _ _ _ _ _ c.in_ok-push_str.ensures.bytes
          c.in_ok-push_str-2.ensures.bytes
          (c.range.ensures.value ∙ ap (slice_range c.args.haystack.now c.loop-found.at) c.start.ensures.start)
          (replacement_at c.args.replacements.now _ _ (c.as_usize.ensures.value ∙ c.pattern.ensures))
          c.end-at.ensures.end;
      between = subst (IsCharBoundary c.args.haystack.now) (sym c.end-at.ensures.end)
          (word_between c.args.self.now c.args.haystack.now c.args.sides.now c.loop-found.at c.in-Some.found
          (next_word written c.in-Some.ensures.steps) c.requires.texts c.patterns_len.ensures.patterns.some
          c.utf8.haystack).1;
    }
