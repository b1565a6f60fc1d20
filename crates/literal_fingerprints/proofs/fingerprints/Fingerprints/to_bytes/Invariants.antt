use Rattle.std.proofs.Common.{◌≡◌, ℕ, ◌/◌, ◌%◌, ◌<◌, [], get_or, length}
use Rattle.literal_fingerprints.specs.Inside.Nibbles.{halves_of}
use Rattle.literal_fingerprints.proofs.fingerprints.Fingerprints.to_bytes.Given as goal

abbrev pub invariant-loop-at : goal.invariant-loop-at
invariant-loop-at l = record {
  long : length l.bytes ≡ 128;
  size : (k : ℕ) → k < l.at → length (get_or (halves_of l.self) (k / 16) []) ≡ 16;
  each : (k : ℕ) → k < l.at → get_or l.bytes k 0 ≡ get_or (get_or (halves_of l.self) (k / 16) []) (k % 16) 0;
}
