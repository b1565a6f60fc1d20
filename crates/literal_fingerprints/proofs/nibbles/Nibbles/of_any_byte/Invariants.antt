use Rattle.std.proofs.Common.{ℕ, ◌<◌, get_or}
use Rattle.literal_fingerprints.proofs.lemmas.Sets.{IsWithin}
use Rattle.literal_fingerprints.proofs.nibbles.Nibbles.of_any_byte.Given as goal

abbrev pub invariant-loop-half : goal.invariant-loop-half
invariant-loop-half l =
    (k : ℕ) → k < l.half → IsWithin l.shared (get_or l.self.low k 0) × IsWithin l.shared (get_or l.self.high k 0)
