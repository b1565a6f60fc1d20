use Rattle.std.proofs.Common.{◌≡◌}
use Rattle.literal_promise.proofs.taken_in_turn.Given as goal

abbrev pub invariant-loop-found : goal.invariant-loop-found
invariant-loop-found l = l.all.items ≡ l.yielded
