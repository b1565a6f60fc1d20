use Rattle.std.proofs.Common.{◌≡◌, ◌-◌, ◌≤◌, ◌++◌, List, length, ℕ}
use Rattle.std.specs.Io.KnownBytes.{Appends}
use Rattle.literal_base.specs.MatchValue.{MatchValue}
use Rattle.litscan.specs.Asked.{AreMatches}
use Rattle.litscan.specs.Inside.Asked.{IsAlong}
use Rattle.litscan.specs.Printed.{marked_from}
use Rattle.litscan.proofs.printing.print_marked.Given as goal

-- the line up to here is printed; whatever matches there are from here on go on from those so far
abbrev pub invariant-loop-found : goal.invariant-loop-found
invariant-loop-found g l = record {
  all : List MatchValue;
  out : List ℕ;
  inside : l.from ≤ length l.line;
  along : IsAlong l.search l.line l.from l.starts;
  goes_on : (more : List MatchValue) → AreMatches l.search l.options l.line l.from more
      → AreMatches l.search l.options l.line 0 (all ++ more);
  written : Appends (g.W.Write.contents l.fn.writer.inner) (g.W.Write.contents l.writer.inner) out;
  marked : (more : List MatchValue) → out ++ marked_from l.options l.line l.from more
      ≡ marked_from l.options l.line 0 (all ++ more);
}

abbrev pub decreases-loop-found : goal.decreases-loop-found
decreases-loop-found g l = length l.line - l.from
