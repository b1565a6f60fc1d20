use Rattle.std.proofs.Common.{◌≡◌}
use Rattle.literal_examples.proofs.words.collect_all.Given as goal

-- what was found so far is in the list
abbrev pub invariant-loop-found : goal.invariant-loop-found
invariant-loop-found l = l.all.items ≡ l.yielded
