use Rattle.std.proofs.Common.{◌≡◌, ◌++◌, map}
use Rattle.literal_packed.specs.PatternsValue.{in_order}
use Rattle.test_contracts.proofs.uses.order_of.Given as goal

abbrev pub invariant-loop-id : goal.invariant-loop-id
invariant-loop-id l = record {
  split : l.yielded ++ l.id-iterator ≡ in_order l.patterns;
  ids : l.ids.items ≡ map (λ p. p.0) l.yielded;
}
