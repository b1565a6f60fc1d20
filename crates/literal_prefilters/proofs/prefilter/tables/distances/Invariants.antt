use Rattle.std.proofs.Common.{◌≡◌, ℕ, ◌<◌, ◌≤◌, length, get_or, cond, Some, None, slice_index}
use Rattle.literal_base.specs.Bytes.{contains}
use Rattle.literal_prefilters.proofs.prefilter.tables.distances.Given as goal

abbrev pub invariant-loop-byte : goal.invariant-loop-byte
invariant-loop-byte l = record {
  whole : length l.distances ≡ 256;
  done : (b : ℕ) → b < l.byte → get_or l.distances b None ≡ cond (contains l.set b)
      (Some (slice_index l.offsets b)) None;
  to_do : (b : ℕ) → l.byte ≤ b → get_or l.distances b None ≡ None;
}
