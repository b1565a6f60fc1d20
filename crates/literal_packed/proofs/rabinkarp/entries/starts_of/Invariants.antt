use Rattle.std.proofs.Common.{◌≡◌, ◌<◌, ℕ, length}
use Rattle.literal_packed.specs.Inside.Entries.{start_at, IsStart}
use Rattle.literal_packed.proofs.rabinkarp.entries.starts_of.Given as goal

-- the starts so far are those of their buckets
abbrev pub invariant-loop-bucket : goal.invariant-loop-bucket
invariant-loop-bucket l = record {
  len : length l.starts ≡ 65;
  are : (k : ℕ) → k < l.bucket-counter → IsStart l.list k (start_at l.starts k);
}
