use Rattle.std.proofs.Common.{◌≤◌, length, sym, ap, ◌∙◌, subst}
use Rattle.literal_base.proofs.lemmas.ClassIterations.{elements-bytes_from, length-elements-le}
use Rattle.literal_base.proofs.alphabet.ByteClasses.elements.Goals as goal

pub returns-clause-bytes : goal.returns-clause-bytes
returns-clause-bytes c =
    elements-bytes_from c.args.self.now c.args.class (ap length (sym c.self.view_is) ∙ c.self.invariant)

pub returns-clause-few : goal.returns-clause-few
returns-clause-few c =
    subst (λ bytes. length bytes ≤ 256) (sym (returns-clause-bytes c)) (length-elements-le c.args.self.now c.args.class)
