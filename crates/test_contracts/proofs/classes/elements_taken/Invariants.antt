use Rattle.std.proofs.Common.{◌≡◌, ◌++◌}
use Rattle.literal_base.specs.Classes.{elements_of}
use Rattle.test_contracts.proofs.classes.elements_taken.Given as goal

abbrev pub invariant-loop-byte : goal.invariant-loop-byte
invariant-loop-byte l = record {
  split : l.yielded ++ l.byte-iterator ≡ elements_of l.classes l.class;
  bytes : l.bytes.items ≡ l.yielded;
}
