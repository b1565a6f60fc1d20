use Rattle.std.proofs.Common.{◌+◌, ◌<◌, ◌≤◌, length}
use Rattle.literal_fingerprints.proofs.pair.rarest_three.Given as goal

abbrev pub invariant-loop-first : goal.invariant-loop-first
invariant-loop-first l = record {
  first : l.rarest.0 ≤ 2;
  far : l.rarest.0 + 2 ≤ l.rarest.1;
  near : l.rarest.1 ≤ l.rarest.0 + 3;
  inside : l.rarest.1 < length l.pattern;
}
