use Rattle.std.proofs.Common.{◌≡◌, ◌++◌}
use Rattle.std.specs.List.{enumerate_from}
use Rattle.test_contracts.proofs.uses_of_ids.words_with_states.Given as goal

abbrev pub invariant-loop-id : goal.invariant-loop-id
invariant-loop-id l = l.all.items ++ l.id-iterator ≡ enumerate_from 0 l.fn.words
