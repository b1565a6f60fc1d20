use Rattle.std.proofs.Common.{◌≡◌, ◌+◌}
use Rattle.literal_fingerprints.proofs.wide.load_wide.Given as goal

abbrev pub invariant-loop : goal.invariant-loop
invariant-loop l = l.tally ≡ record l.initial.tally { scanned = l.initial.tally.scanned + l.counter }
