use Rattle.std.proofs.Common.{◌-◌, ◌<◌, ◌^◌, ℕ, List}
use Rattle.litscan.proofs.lemmas.Passing.{SoFar}
use Rattle.litscan.proofs.scan.scan_lines.Given as goal

-- the lines that were read so far are counted, and printed
abbrev pub invariant-loop-options : goal.invariant-loop-options
invariant-loop-options g l = record {
  seen : List (List ℕ);
  out : List ℕ;
  so_far : SoFar l.search l.options l.name (g.R.Read.remaining l.fn.reader.inner) (g.R.Read.remaining l.reader.inner)
      (g.W.Write.contents l.fn.writer.inner) (g.W.Write.contents l.writer.inner) seen out l.count l.lines l.offset;
  small : l.offset < 2 ^ 64;
}

abbrev pub decreases-loop-options : goal.decreases-loop-options
decreases-loop-options g l = 2 ^ 64 - l.offset
