use Rattle.std.proofs.Common.{ℕ, ◌<◌, drop, get_or}
use Rattle.std.specs.Global.{Vec}
use Rattle.literal_fingerprints.specs.FingerprintsValue.{LetsPass}
use Rattle.literal_fingerprints.proofs.fingerprints.Fingerprints.are_for.Given as goal

abbrev pub invariant-loop-pattern : goal.invariant-loop-pattern
invariant-loop-pattern l =
    (k : ℕ) (d : Vec ℕ) → k < l.pattern-index
    → LetsPass l.self l.ignore_case (drop l.skipped (get_or l.patterns k d).items)
