use Rattle.std.proofs.Common.{◌<◌, ◌≤◌, ℕ}
use Rattle.literal_packed.specs.Inside.Entries.{len_at}
use Rattle.literal_packed.proofs.rabinkarp.entries.single_of.Given as goal

-- no bucket so far has a second entry
abbrev pub invariant-loop-bucket : goal.invariant-loop-bucket
invariant-loop-bucket l = (k : ℕ) → k < l.bucket → len_at l.starts k ≤ 1
