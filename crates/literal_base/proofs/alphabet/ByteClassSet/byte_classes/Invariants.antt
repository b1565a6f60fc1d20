use Rattle.std.proofs.Common.{◌≡◌, ℕ, ◌<◌, ◌≤◌, length, get_or}
use Rattle.literal_base.specs.Classes.{class_of}
use Rattle.literal_base.proofs.alphabet.ByteClassSet.byte_classes.Given as goal

abbrev pub invariant-loop-byte : goal.invariant-loop-byte
invariant-loop-byte l = record {
  whole : length l.classes ≡ 256;
  small : l.class ≤ l.byte;
  counted : l.class ≡ class_of l.self l.byte;
  each : (k : ℕ) → k < l.byte → get_or l.classes k 0 ≡ class_of l.self k;
}
