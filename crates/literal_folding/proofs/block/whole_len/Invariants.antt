-- Each of the last bytes begins no character that goes on behind the text.
use Rattle.std.proofs.Common.{ℕ, ◌-◌, ◌<◌, length, get_or}
use Rattle.literal_folding.specs.Inside.Blocks.{bytes_behind_of}
use Rattle.literal_folding.proofs.block.whole_len.Given as goal

abbrev pub invariant-loop-back : goal.invariant-loop-back
invariant-loop-back l = (k : ℕ) → 0 < k → k < l.back → bytes_behind_of (get_or l.text (length l.text - k) 0) < k
