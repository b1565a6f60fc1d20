use Rattle.std.proofs.Common.{List, ap, arith, drop, length, length-append, map}
use Rattle.std.proofs.Common.{subst, sym, take}
use Rattle.std.proofs.lemmas.List.{length-drop, length-take-le, take_rest}
use Rattle.std.proofs.lemmas.Result.{on_ok_weaker}
use Rattle.litscan.specs.Inside.Groups.{PassesOver}
use Rattle.litscan.specs.Lines.{lines_of}
use Rattle.litscan.proofs.lemmas.Over.{LeavesOut, passes_behind, same_length}
use Rattle.litscan.proofs.lemmas.Whole.{few_lines, lines_of_parts, made}
use Rattle.litscan.proofs.context.Context.pass.Goals as goal

pub leave_out-requires : goal.leave_out-requires
leave_out-requires c = record {
  number =
      omega (
        arith,
        few_lines c.args.options.line_end (made c.args.options.line_end c.args.bytes.now c.requires.whole),
        c.requires.lines,
        c.requires.number,
      );
}

pub hold_each-requires-2-clause-number : goal.hold_each-requires-2-clause-number
hold_each-requires-2-clause-number c =
    let line_end = c.args.options.line_end in
    let bytes = c.args.bytes.now in
    let start = c.start_of_last-start in
    let front = lines_of line_end (take start.result bytes) in
    let back = lines_of line_end (drop start.result bytes) in
    omega (
      arith,
      ap (λ context. context.number) c.leave_out.ensures.rest,
      ap (λ these. length (map (λ line. line.items) these)) c.leave_out.ensures.held,
      few_lines line_end (made line_end (take start.result bytes) start.ensures.front),
      length-take-le start.result bytes start.ensures.inside,
      length-drop start.result bytes,
      ap (λ (l : List _). length l) (take_rest bytes start.result),
      ap (λ (l : List _). length l) (lines_of_parts line_end bytes start.result start.ensures.front start.ensures.last),
      length-append front back,
      start.ensures.count,
      start.ensures.inside,
      c.requires.lines,
      c.requires.number,
    )

pub returns-clause-over : goal.returns-clause-over
returns-clause-over c =
    let line_end = c.args.options.line_end in
    let bytes = c.args.bytes.now in
    let options = c.args.options in
    let start = c.start_of_last-start in
    let front = lines_of line_end (take start.result bytes) in
    let back = lines_of line_end (drop start.result bytes) in
    let parts = lines_of_parts line_end bytes start.result start.ensures.front start.ensures.last in
    let count = length-append front back in
    let sum = ap (λ (l : List _). length l) parts in
    let first = made line_end (take start.result bytes) start.ensures.front in
    let is = c.leave_out.ensures.rest in
    let leaves : LeavesOut options c.args.self.now c.leave_out.new.self front =
    record {
      held = ap (map (λ line. line.items)) c.leave_out.ensures.held;
      number_is =
          omega (arith, ap (λ context. context.number) is, sum, count, start.ensures.count, c.requires.lines);
      offset_is =
          omega (
            arith,
            ap (λ context. context.offset) is,
            same_length line_end front,
            ap (λ (l : List _). length l) first.are,
            length-take-le start.result bytes start.ensures.inside,
            c.requires.offset,
          );
      due_is = ap (λ context. context.due) is;
      any_is = ap (λ context. context.any) is;
      apart_is = ap (λ context. context.apart) is;
    } in
    on_ok_weaker c.hold_each-2.result
    (λ over. subst (PassesOver options c.args.self.now c.hold_each-2.new.self) (sym parts)
    (passes_behind options c.args.self.now c.leave_out.new.self c.hold_each-2.new.self front back leaves
    (omega (arith, sum, count, start.ensures.count, c.requires.lines, c.if-lines-before.false))
    (omega (arith, start.ensures.count, c.lines_before-before.ensures)) c.requires.due
    (subst (λ l. PassesOver options c.leave_out.new.self c.hold_each-2.new.self (lines_of line_end l))
    (take_rest bytes start.result) over))) c.hold_each-2.ensures.over
