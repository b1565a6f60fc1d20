use Rattle.std.proofs.Common.{◌∙◌, ap, arith, rules}
use Rattle.std.specs.List.{slice_range}
use Rattle.literal_search.proofs.lemmas.Replaced.{replacement_at}
use Rattle.literal_search.proofs.lemmas.ReplacedWords.{word_refused, word_refused_behind, word_written, words_written}
use Rattle.literal_search.proofs.whole_words.WholeWords.replace_all_by_sides.Goals as goal

pub returns-in_err-extend_from_slice-clause-error : goal.returns-in_err-extend_from_slice-clause-error
returns-in_err-extend_from_slice-clause-error c =
    let refused = word_refused c.loop-found.invariant c.in-Some.ensures.steps
    (omega (arith, c.if-replacements-patterns_len.false, c.patterns_len.ensures.len))
    c.patterns_len.ensures.patterns.some (grind arith) in
    search (rules, refused)

pub returns-in_err-extend_from_slice-2-clause-error : goal.returns-in_err-extend_from_slice-2-clause-error
returns-in_err-extend_from_slice-2-clause-error c =
    let refused = word_refused c.loop-found.invariant c.in-Some.ensures.steps
    (omega (arith, c.if-replacements-patterns_len.false, c.patterns_len.ensures.len))
    c.patterns_len.ensures.patterns.some (grind (arith, replacement_at)) in
    search (rules, refused)

pub returns-in_err-extend_from_slice-3-clause-error : goal.returns-in_err-extend_from_slice-3-clause-error
returns-in_err-extend_from_slice-3-clause-error c =
    let refused = word_refused_behind c.loop-found.invariant c.in-None.ensures.steps
    (omega (arith, c.if-replacements-patterns_len.false, c.patterns_len.ensures.len))
    (omega (arith, c.in_err-extend_from_slice-3.ensures.full, c.loop-found.text.ok)) in
    search (rules, refused)

pub loop-found-preserved : goal.loop-found-preserved
loop-found-preserved c =
    word_written c.loop-found.invariant c.in-Some.ensures.steps _ _ _ _ _ c.in_ok-extend_from_slice.ensures.items
    c.in_ok-extend_from_slice-2.ensures.items
    (ap (slice_range c.args.haystack.now c.loop-found.at) c.start.ensures.start)
    (replacement_at c.args.replacements.now _ _ (c.as_usize.ensures.value ∙ c.pattern.ensures))
    c.end-at.ensures.end

pub returns-clause-ok : goal.returns-clause-ok
returns-clause-ok c =
    words_written c.loop-found.invariant c.in-None.ensures.steps
    (omega (arith, c.if-replacements-patterns_len.false, c.patterns_len.ensures.len)) _
    c.in_ok-extend_from_slice-3.ensures.items
