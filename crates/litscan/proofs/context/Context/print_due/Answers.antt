use Rattle.std.proofs.Common.{◌∙◌, ◌-◌, ap}
use Rattle.litscan.specs.Inside.Groups.{held_of}
use Rattle.litscan.proofs.lemmas.Groups.{goes_on_due}
use Rattle.litscan.proofs.context.Context.print_due.Goals as goal

pub returns-clause-printed : goal.returns-clause-printed
returns-clause-printed g c =
    let part = c.in_ok-print_near.ensures.printed in
    let old = c.args.self.now in
    let new = c.advance.new.self in
    let is = c.advance.ensures in
    let well = c.requires.well in
    let due = c.requires.due in (
      part.0,
      part.1,
      λ separator. goes_on_due c.args.search.now c.args.options separator c.args.name.now old
          (record new { due = new.due - 1 }) c.args.line.now part.0 well due (record {
            held = ap held_of is ∙ well.none due;
            any = ap (λ context. context.any) is ∙ well.any due;
            apart = ap (λ context. context.apart) is ∙ well.together due;
            number_is = ap (λ context. context.number) is;
            offset_is = ap (λ context. context.offset) is;
            due_is = ap (λ context. context.due - 1) is;
          }) part.2,
    )
