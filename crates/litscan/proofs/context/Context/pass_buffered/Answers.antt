use Rattle.std.proofs.Common.{◌∙◌, [], List, ap, arith, length, subst, sym, take}
use Rattle.litscan.specs.Inside.Groups.{PassesAhead, PassesOver}
use Rattle.litscan.specs.Inside.Passed.{EndsLine}
use Rattle.litscan.proofs.lemmas.Passing.{front_of, len_more, passes_nothing}
use Rattle.litscan.proofs.lemmas.Whole.{Makes, ends_of, makes_lines}
use Rattle.litscan.proofs.context.Context.pass_buffered.Goals as goal

pub returns-in_default-clause-passed : goal.returns-in_default-clause-passed
returns-in_default-clause-passed c = (
  [],
  ap (λ passed. take passed.bytes c.args.bytes.now) c.none.ensures,
  subst (λ passed. PassesAhead c.args.search.now c.args.options c.args.offset c.args.self.now c.args.self.now passed [])
      (sym c.none.ensures)
      (passes_nothing c.args.search.now c.args.options c.args.offset c.args.self.now c.ranges.offset.fits
      c.requires.well),
)

pub pass-requires-clause-whole : goal.pass-requires-clause-whole
pass-requires-clause-whole c =
    let takes = c.look_ahead-passed.ensures.1 in
    subst (EndsLine c.args.options.line_end) (sym (front_of c.args.bytes.now takes))
    (ends_of c.args.options.line_end takes.lines)

pub pass-requires-clause-lines : goal.pass-requires-clause-lines
pass-requires-clause-lines c =
    let takes = c.look_ahead-passed.ensures.1 in
    let makes : Makes c.args.options.line_end (take c.look_ahead-passed.result.bytes c.args.bytes.now) takes.lines =
    record { whole = takes.are.whole; are = front_of c.args.bytes.now takes } in
    takes.count ∙ ap (λ (l : List _). length l) (sym (makes_lines c.args.options.line_end makes))

pub returns-clause-passed : goal.returns-clause-passed
returns-clause-passed c =
    let passed = c.look_ahead-passed.result in
    let takes = c.look_ahead-passed.ensures.1 in
    let makes : Makes c.args.options.line_end (take passed.bytes c.args.bytes.now) takes.lines =
    record { whole = takes.are.whole; are = front_of c.args.bytes.now takes } in (
      takes.lines,
      front_of c.args.bytes.now takes,
      record {
        are = takes.are;
        bytes = takes.bytes;
        small = omega (arith, c.in-Some.ensures, len_more passed.bytes passed.next, c.look_ahead-passed.ensures.2);
        unselected = λ some. (c.requires.others, c.requires.due);
        over =
            subst (PassesOver c.args.options c.args.self.now c.pass.new.self)
            (makes_lines c.args.options.line_end makes) c.in_ok-pass.ensures.over;
      },
    )
