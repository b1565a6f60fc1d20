use Rattle.std.proofs.Common.{◌∙◌, inl, rules, sym}
use Rattle.litscan.proofs.lemmas.Zero.{begins_without_zero, zero_in}
use Rattle.litscan.proofs.device.Device.has_zero_ahead.Goals as goal

pub returns-in-Ok-clause-zero : goal.returns-in-Ok-clause-zero
returns-in-Ok-clause-zero g c =
    λ yes. zero_in _ c.in-Ok.bytes.now (search rules) (sym c.contains_zero.ensures ∙ yes)

pub returns-in-Ok-clause-none : goal.returns-in-Ok-clause-none
returns-in-Ok-clause-none g c =
    λ no. inl (begins_without_zero _ c.in-Ok.bytes.now (search rules) (search rules) (sym c.contains_zero.ensures ∙ no))
