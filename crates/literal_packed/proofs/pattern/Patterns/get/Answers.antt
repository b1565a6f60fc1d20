use Rattle.std.proofs.Common.{◌<◌, [], length, sym, subst}
use Rattle.std.proofs.lemmas.Grind.{common_steps}
use Rattle.std.proofs.Common.{arith}
use Rattle.literal_packed.specs.PatternsValue.{PatternsValue}
use Rattle.literal_packed.proofs.pattern.Patterns.get.Goals as goal

pub returns-clause-some : goal.returns-clause-some
returns-clause-some c =
    let within = subst (λ (p : PatternsValue). c.args.id < length p.patterns) (sym c.self.view_is) c.requires in
    let some = c.self.invariant.well_formed.not_empty c.args.id [] within in
    grind (arith, common_steps, some)
