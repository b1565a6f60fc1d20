use Rattle.std.proofs.Common.{◌≡◌, ◌<◌, drop, get_or, length, ℕ}
use Rattle.std.specs.Global.{Vec}
use Rattle.literal_fingerprints.specs.Inside.Buckets.{IsHeld}
use Rattle.literal_fingerprints.proofs.buckets.Buckets.of.Given as goal

abbrev pub invariant-loop-pattern : goal.invariant-loop-pattern
invariant-loop-pattern l = record {
  long : length l.buckets ≡ 8;
  held : (k : ℕ) (d : Vec ℕ) → k < l.pattern-index
      → IsHeld l.buckets l.ignore_case (drop l.skipped (get_or l.patterns k d).items);
}
