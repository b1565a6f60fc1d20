use Rattle.std.proofs.Common.{◌∙◌, IsCharBoundary, ap, arith, rules, slice_range, string_bytes, subst, sym}
use Rattle.std.proofs.lemmas.List.{take_rest}
use Rattle.std.proofs.lemmas.Str.{IsCharBoundary-start}
use Rattle.literal_search.proofs.lemmas.Replaced.{all_written, refused_at, refused_behind, replacement_at, written_on}
use Rattle.literal_search.proofs.lemmas.Texts.{found_between}
use Rattle.literal_search.proofs.search.Search.replace_all_str.Goals as goal

pub returns-in_err-push_str-clause-error : goal.returns-in_err-push_str-clause-error
returns-in_err-push_str-clause-error c =
    let refused = refused_at c.loop-found.invariant.written
    (omega (arith, c.if-replacements-patterns_len.false, c.patterns_len.ensures.len)) (cc) c.loop-found.yielded_by
    c.patterns_len.ensures.patterns.some c.in-Some.ensures.steps (grind (arith, slice_range)) in
    search (rules, refused)

pub returns-in_err-push_str-2-clause-error : goal.returns-in_err-push_str-2-clause-error
returns-in_err-push_str-2-clause-error c =
    let refused = refused_at c.loop-found.invariant.written
    (omega (arith, c.if-replacements-patterns_len.false, c.patterns_len.ensures.len)) (cc) c.loop-found.yielded_by
    c.patterns_len.ensures.patterns.some c.in-Some.ensures.steps (grind (arith, slice_range, replacement_at)) in
    search (rules, refused)

pub returns-in_err-push_str-3-clause-error : goal.returns-in_err-push_str-3-clause-error
returns-in_err-push_str-3-clause-error c =
    let refused = refused_behind c.loop-found.invariant.written
    (omega (arith, c.if-replacements-patterns_len.false, c.patterns_len.ensures.len)) (cc) c.loop-found.yielded_by
    c.in-None.ensures.steps (grind (arith, take_rest)) in
    search (rules, refused)

pub returns-clause-ok : goal.returns-clause-ok
returns-clause-ok c =
    (all_written c.loop-found.invariant.written
    (omega (arith, c.if-replacements-patterns_len.false, c.patterns_len.ensures.len)) (cc) c.loop-found.yielded_by
    c.in-None.ensures.steps _ (grind (arith, string_bytes, take_rest))).0

pub range-requires-clause-end_boundary : goal.range-requires-clause-end_boundary
range-requires-clause-end_boundary c =
    let written = c.loop-found.invariant.written in
    subst (IsCharBoundary c.args.haystack.now) (sym c.start.ensures.start)
    (found_between c.args.self.now c.args.haystack.now c.loop-found.found-iterator _ c.in-Some.found written.search_is
    written.haystack_is written.to_end c.in-Some.ensures.steps c.requires c.patterns_len.ensures.patterns.some
    c.utf8.haystack).0

pub loop-found-init : goal.loop-found-init
loop-found-init c = grind (arith, IsCharBoundary-start)

pub loop-found-preserved : goal.loop-found-preserved
loop-found-preserved c =
    let written = c.loop-found.invariant.written in
    record {
      written = written_on written c.in-Some.ensures.steps _ _ _ _ _ c.in_ok-push_str.ensures.bytes
          c.in_ok-push_str-2.ensures.bytes
          (c.range.ensures.value ∙ ap (slice_range c.args.haystack.now c.loop-found.at) c.start.ensures.start)
          (replacement_at c.args.replacements.now _ _ (c.as_usize.ensures.value ∙ c.pattern.ensures))
          c.end-at.ensures.end;
      between = subst (IsCharBoundary c.args.haystack.now) (sym c.end-at.ensures.end)
          (found_between c.args.self.now c.args.haystack.now c.loop-found.found-iterator _ c.in-Some.found
          written.search_is written.haystack_is written.to_end c.in-Some.ensures.steps c.requires
          c.patterns_len.ensures.patterns.some c.utf8.haystack).1;
    }
