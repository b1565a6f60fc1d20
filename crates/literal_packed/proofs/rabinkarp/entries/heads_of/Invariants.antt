use Rattle.std.proofs.Common.{◌≡◌, ◌<◌, ℕ, length, get_or}
use Rattle.literal_packed.specs.Inside.Entries.{part_at, IsHead}
use Rattle.literal_packed.proofs.rabinkarp.entries.heads_of.Given as goal

-- the heads so far are those of their buckets
abbrev pub invariant-loop-bucket : goal.invariant-loop-bucket
invariant-loop-bucket l = record {
  len : length l.heads ≡ 64;
  are : (k : ℕ) (d : ℕ × ℕ) → k < l.bucket → IsHead l.i k (part_at l.starts l.list k) (get_or l.heads k d);
}
