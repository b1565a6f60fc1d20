use Rattle.std.proofs.Common.{◌≡◌, ◌<◌, get_or, length, true, ℕ}
use Rattle.literal_base.specs.Occurs.{same_byte}
use Rattle.literal_fingerprints.specs.Inside.Buckets.{HasByte, halves_at}
use Rattle.literal_fingerprints.proofs.buckets.Bucket.with.Given as goal

abbrev pub invariant-loop-place : goal.invariant-loop-place
invariant-loop-place l = record {
  long : length l.places ≡ 4;
  kept : (k byte : ℕ) → HasByte (halves_at l.fn.self.places k) byte → HasByte (halves_at l.places k) byte;
  held : (k byte : ℕ) → k < l.place → k < length l.pattern → same_byte l.ignore_case byte (get_or l.pattern k 0) ≡ true
      → HasByte (halves_at l.places k) byte;
}
