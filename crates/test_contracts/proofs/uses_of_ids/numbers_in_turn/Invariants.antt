use Rattle.std.proofs.Common.{◌≡◌, ◌++◌}
use Rattle.std.specs.List.{range_with_len}
use Rattle.test_contracts.proofs.uses_of_ids.numbers_in_turn.Given as goal

abbrev pub invariant-loop-id : goal.invariant-loop-id
invariant-loop-id l = l.all.items ++ l.id-iterator ≡ range_with_len 0 l.fn.len
