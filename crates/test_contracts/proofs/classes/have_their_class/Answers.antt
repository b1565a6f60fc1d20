use Rattle.std.proofs.Common.{◌∙◌}
use Rattle.literal_base.proofs.lemmas.Callers.{element_has_class}
use Rattle.test_contracts.proofs.classes.have_their_class.Goals as goal

pub returns-then-get-class : goal.returns-then-get-class
returns-then-get-class c =
    absurd (c.if-get-class.true (c.get.ensures
    ∙ element_has_class c.args.classes.now c.args.class _ _ _ _ c.loop-byte.invariant c.in-Some.ensures.steps))
