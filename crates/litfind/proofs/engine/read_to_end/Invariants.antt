use Rattle.std.proofs.Common.{◌≡◌, ◌-◌, ◌^◌, false, vec_len}
use Rattle.std.specs.Io.KnownBytes.{Consumes}
use Rattle.litfind.proofs.engine.read_to_end.Given as goal

-- the input is what was read so far, and no read has failed or found the end
abbrev pub invariant-loop-input : goal.invariant-loop-input
invariant-loop-input g l =
    Consumes (g.R.Source.remaining l.fn.reader) (g.R.Source.remaining l.reader) l.input.items
    × (g.R.Source.failed l.reader ≡ false)
    × (g.R.Source.ended l.reader ≡ false)

-- each read that goes on adds a byte
abbrev pub decreases-loop-input : goal.decreases-loop-input
decreases-loop-input g l = 2 ^ 64 - vec_len l.input
