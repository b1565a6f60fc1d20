use Rattle.std.proofs.Common.{◌↔◌}
use Rattle.literal_base.specs.Occurs.{NoneIsEmpty}
use Rattle.literal_c.specs.Pieces.{pieces}
use Rattle.literal_c.proofs.arguments.can_be_searched.Given as goal

-- whether one of the rest is empty decides of all
abbrev pub invariant-loop-pattern : goal.invariant-loop-pattern
invariant-loop-pattern l = NoneIsEmpty (pieces l.patterns 0 l.ends) ↔ NoneIsEmpty l.pattern-iterator
