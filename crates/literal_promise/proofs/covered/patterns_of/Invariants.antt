use Rattle.std.proofs.Common.{◌≡◌, map, take}
use Rattle.literal_promise.proofs.covered.patterns_of.Given as goal

abbrev pub invariant-loop-bytes : goal.invariant-loop-bytes
invariant-loop-bytes l = l.patterns.patterns ≡ map (λ p. p.now) (take l.bytes-index l.list)
