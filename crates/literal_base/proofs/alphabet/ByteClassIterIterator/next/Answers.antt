use Rattle.std.proofs.Common.{◌≡◌, ◌∷◌, ◌+◌, length, sym, ap, ◌∙◌, arith}
use Rattle.literal_base.specs.Inside.Classes.{classes_from}
use Rattle.literal_base.proofs.lemmas.ClassIterations.{classes_from-more}
use Rattle.literal_base.proofs.alphabet.ByteClassIterIterator.next.Goals as goal

pub returns-clause-steps : goal.returns-clause-steps
returns-clause-steps c =
    let i = c.self.inside in
    sym c.self.view_is ∙ classes_from-more i.classes.now i.class (omega arith)

pub returns-clause-goes : goal.returns-clause-goes
returns-clause-goes c =
    let i = c.self.inside in
    let shorter : c.args.self.now ≡ i.class ∷ classes_from i.classes.now (i.class + 1) = returns-clause-steps c in
    grind (arith, ap length shorter)
