use Rattle.std.proofs.Common.{◌+◌, ◌*◌, ◌-◌, ◌≤◌, ◌^◌, map, subst, sym, ℕ}
use Rattle.std.specs.Global.{Vec}
use Rattle.literal_rows.specs.Inside.Shadowed.{texts_by}
use Rattle.literal_rows.specs.Patterns.{reversed}
use Rattle.literal_rows.specs.Table.{stride_of}
use Rattle.literal_rows.proofs.lemmas.Reversed.{back_total}
use Rattle.literal_rows.proofs.lemmas.States.{few_if_short}
use Rattle.literal_rows.proofs.shadowed.check_states.Goals as goal

pub returns-then-need_few_states-clause-few : goal.returns-then-need_few_states-clause-few
returns-then-need_few_states-clause-few c =
    let classes = c.args.classes.now in
    let bytes = map (λ (pattern : Vec ℕ). pattern.items) c.args.patterns.now in
    few_if_short (reversed (texts_by classes.table c.args.patterns.now)) classes.width
    (subst (λ total. (total + 1) * stride_of classes.width ≤ 2 ^ 31 - 1) (sym (back_total classes.table bytes))
    (c.need_few_states.ensures c.if-need_few_states.true))
