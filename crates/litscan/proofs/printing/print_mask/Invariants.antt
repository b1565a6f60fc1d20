use Rattle.std.proofs.Common.{replicate}
use Rattle.std.specs.Io.KnownBytes.{Appends}
use Rattle.litscan.proofs.printing.print_mask.Given as goal

-- the byte is written as often as the loop has run
abbrev pub invariant-loop : goal.invariant-loop
invariant-loop g l =
    Appends (g.W.Write.contents l.fn.writer.inner) (g.W.Write.contents l.writer.inner) (replicate l.counter l.byte)
