use Rattle.std.proofs.Common.{arith, ◌∙◌}
use Rattle.literal_packed.proofs.lemmas.Sums.{power_past}
use Rattle.literal_packed.proofs.rabinkarp.Rolling.new.Goals as goal
use Rattle.literal_packed.proofs.rabinkarp.Rolling.new.Goals.{then-window, else-window}

pub invariant_of-result : goal.invariant_of-result
invariant_of-result c = (
  c.requires,
  elim c.if-window.branch [
    | then-window w ↦ omega (arith, w.power-is)
    | else-window w ↦ w.power-is ∙ power_past c.args.window (omega arith)
  ],
)
