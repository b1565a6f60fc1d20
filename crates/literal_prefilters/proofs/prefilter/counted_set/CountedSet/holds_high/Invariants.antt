use Rattle.std.proofs.Common.{◌≡◌, ℕ, ◌<◌, false}
use Rattle.literal_base.specs.Bytes.{contains}
use Rattle.literal_prefilters.proofs.prefilter.counted_set.CountedSet.holds_high.Given as goal

abbrev pub invariant-loop-byte : goal.invariant-loop-byte
invariant-loop-byte l = (b : ℕ) → 127 < b → b < l.byte → contains l.self b ≡ false
