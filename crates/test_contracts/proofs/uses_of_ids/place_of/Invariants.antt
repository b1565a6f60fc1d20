use Rattle.std.proofs.Common.{◌≡◌, ◌++◌, length}
use Rattle.std.specs.List.{range_with_len}
use Rattle.test_contracts.proofs.uses_of_ids.place_of.Given as goal

abbrev pub invariant-loop-id : goal.invariant-loop-id
invariant-loop-id l = l.yielded ++ l.id-iterator ≡ range_with_len 0 (length l.words)
