use Rattle.std.proofs.Common.{◌≡◌, ◌-◌, filter, nat_le}
use Rattle.literal_examples.proofs.words.occurrences_of_at_least.Given as goal

-- what was found so far is in the list, if it is long enough
abbrev pub invariant-loop-found : goal.invariant-loop-found
invariant-loop-found l = l.all.items ≡ filter (λ found. nat_le l.least (found.end - found.start)) l.yielded
