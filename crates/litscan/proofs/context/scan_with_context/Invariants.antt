use Rattle.std.proofs.Common.{◌-◌, ◌^◌}
use Rattle.litscan.proofs.lemmas.Near.{NearAt}
use Rattle.litscan.proofs.context.scan_with_context.Given as goal

-- the lines that were read so far are counted, and printed or held
abbrev pub invariant-loop-alloc : goal.invariant-loop-alloc
invariant-loop-alloc g l =
    NearAt l.search l.options l.separator l.any l.name (g.R.Read.remaining l.fn.reader.inner)
    (g.R.Read.remaining l.reader.inner) (g.W.Write.contents l.fn.writer.inner) (g.W.Write.contents l.writer.inner)
    l.count l.offset l.context

abbrev pub decreases-loop-alloc : goal.decreases-loop-alloc
decreases-loop-alloc g l = 2 ^ 64 - l.offset
