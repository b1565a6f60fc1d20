use Rattle.std.proofs.Common.{◌+◌, arith, false, refl, slice_range, subst, sym, take, true}
use Rattle.std.proofs.KnownBytes.{Appends-kept}
use Rattle.std.proofs.lemmas.Bool.{not-true}
use Rattle.litscan.specs.Inside.Passed.{EndsLine, TakesLines}
use Rattle.litscan.proofs.lemmas.Others.{few_others}
use Rattle.litscan.proofs.lemmas.Passing.{front_of, line_taken, lines_taken, nothing_taken, takes_copy, with_line}
use Rattle.litscan.proofs.lemmas.Passing.{word_behind}
use Rattle.litscan.proofs.lemmas.Whole.{ends_of}
use Rattle.litscan.proofs.buffered.take_buffered.Goals as goal

pub returns-in_default-clause-takes : goal.returns-in_default-clause-takes
returns-in_default-clause-takes g c =
    let written = g.W.Write.contents c.args.writer.now.inner in
    subst (λ ahead. TakesLines c.args.search.now c.args.options c.args.name.now c.args.lines c.args.offset ahead
    (take ahead.bytes c.args.bytes.now) written written) (sym c.none.ensures)
    (nothing_taken c.args.search.now c.args.options c.args.name.now c.args.lines c.args.offset written false
    c.ranges.offset.fits)

pub returns-then-is_empty-clause-takes : goal.returns-then-is_empty-clause-takes
returns-then-is_empty-clause-takes g c =
    let written = g.W.Write.contents c.args.writer.now.inner in
    subst (λ ahead. TakesLines c.args.search.now c.args.options c.args.name.now c.args.lines c.args.offset ahead
    (take ahead.bytes c.args.bytes.now) written written) (sym c.at_end.ensures)
    (nothing_taken c.args.search.now c.args.options c.args.name.now c.args.lines c.args.offset written true
    c.ranges.offset.fits)

pub returns-in_default-next-clause-takes : goal.returns-in_default-next-clause-takes
returns-in_default-next-clause-takes g c =
    lines_taken c.args.search.now c.args.options c.args.name.now c.args.lines c.args.offset c.args.bytes.now
    c.look_ahead-passed.result c.requires.plain c.in_ok-others.others c.in_ok-others.ensures.count _ _
    c.in_ok-others.ensures.written
    (omega (arith, c.in-Some.ensures)) c.in_default-next.is
    c.look_ahead-passed.ensures

pub overflow_add-number : goal.overflow_add-number
overflow_add-number g c =
    let few = with_line c.args.search.now c.args.options c.args.name.now c.args.lines c.args.offset c.args.bytes.now
    c.look_ahead-passed.result c.requires.plain c.in-Some-next.len c.in-Some-next.is c.look_ahead-passed.ensures in
    omega (arith, few, c.in-Some.ensures, c.requires.few)

pub take_line-requires-clause-known : goal.take_line-requires-clause-known
take_line-requires-clause-known g c is =
    word_behind c.args.search.now c.args.options c.args.name.now c.args.lines c.args.offset c.args.bytes.now
    c.look_ahead-passed.result c.requires.plain c.in-Some-next.len c.in-Some-next.is c.look_ahead-passed.ensures
    (not-true c.args.options.whole is)

pub overflow_add-number-2 : goal.overflow_add-number-2
overflow_add-number-2 g c =
    let few = with_line c.args.search.now c.args.options c.args.name.now c.args.lines c.args.offset c.args.bytes.now
    c.look_ahead-passed.result c.requires.plain c.in-Some-next.len c.in-Some-next.is c.look_ahead-passed.ensures in
    omega (arith, few, c.in-Some.ensures, c.requires.few)

pub overflow_add-result : goal.overflow_add-result
overflow_add-result g c =
    let few = with_line c.args.search.now c.args.options c.args.name.now c.args.lines c.args.offset c.args.bytes.now
    c.look_ahead-passed.result c.requires.plain c.in-Some-next.len c.in-Some-next.is c.look_ahead-passed.ensures in
    omega (arith, few, c.in-Some.ensures, c.requires.few)

pub returns-clause-takes : goal.returns-clause-takes
returns-clause-takes g c =
    let search = c.args.search.now in
    let line_end = c.args.options.line_end in
    let len = c.in-Some-next.len in
    let passed = c.look_ahead-passed.result in
    let line = slice_range c.args.bytes.now passed.bytes (passed.bytes + len) in
    let printed = c.in_ok-count.ensures.printed in
    let few = with_line search c.args.options c.args.name.now c.args.lines c.args.offset c.args.bytes.now
    passed c.requires.plain len c.in-Some-next.is c.look_ahead-passed.ensures in
    line_taken search c.args.options c.args.name.now c.args.lines c.args.offset c.args.bytes.now passed
    c.requires.plain c.in_ok-others.others c.in_ok-others.ensures.count _ _ c.in_ok-others.ensures.written len line
    c.in-Some-next.is
    (takes_copy line_end search c.args.options c.args.bytes.now passed line len c.in-Some-next.is refl
    c.look_ahead-passed.ensures)
    _ _ c.in_ok-count.count refl refl (omega (arith, few, c.in-Some.ensures)) c.in_ok-count.ensures.counted _ printed.0
    (Appends-kept _ _ _ _ printed.1 c.in_ok-flush_line.ensures.kept) printed.2

pub overflow_add-result-4 : goal.overflow_add-result-4
overflow_add-result-4 g c =
    let few = with_line c.args.search.now c.args.options c.args.name.now c.args.lines c.args.offset c.args.bytes.now
    c.look_ahead-passed.result c.requires.plain c.in-Some-next.len c.in-Some-next.is c.look_ahead-passed.ensures in
    omega (
      arith,
      few,
      c.in-Some.ensures,
      few_others c.args.options.others c.look_ahead-passed.result.lines c.in_ok-others.others
          c.in_ok-others.ensures.count,
      c.in_ok-count.ensures.few,
    )

pub take_others-requires-clause-whole : goal.take_others-requires-clause-whole
take_others-requires-clause-whole g c =
    let takes = c.look_ahead-passed.ensures.1 in
    subst (EndsLine c.args.options.line_end) (sym (front_of c.args.bytes.now takes))
    (ends_of c.args.options.line_end takes.lines)
