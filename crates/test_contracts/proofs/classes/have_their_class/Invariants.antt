use Rattle.std.proofs.Common.{◌≡◌, ◌++◌}
use Rattle.literal_base.specs.Classes.{elements_of}
use Rattle.test_contracts.proofs.classes.have_their_class.Given as goal

abbrev pub invariant-loop-byte : goal.invariant-loop-byte
invariant-loop-byte l = l.yielded ++ l.byte-iterator ≡ elements_of l.classes l.class
