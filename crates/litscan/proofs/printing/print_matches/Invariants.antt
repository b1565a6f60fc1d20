use Rattle.std.proofs.Common.{◌≡◌, ◌-◌, ◌≤◌, ◌++◌, List, length, min}
use Rattle.std.specs.Io.KnownBytes.{Appends}
use Rattle.literal_base.specs.MatchValue.{MatchValue}
use Rattle.litscan.specs.Asked.{AreMatches}
use Rattle.litscan.specs.Inside.Asked.{IsAlong}
use Rattle.litscan.specs.Printed.{printed_matches}
use Rattle.litscan.proofs.printing.print_matches.Given as goal

-- the matches so far are printed, and whatever matches there are from here on go on from them
abbrev pub invariant-loop-found : goal.invariant-loop-found
invariant-loop-found g l = record {
  all : List MatchValue;
  inside : l.from ≤ length l.line;
  along : IsAlong l.search l.line l.from l.starts;
  goes_on : (more : List MatchValue) → AreMatches l.search l.options l.line l.from more
      → AreMatches l.search l.options l.line 0 (all ++ more);
  written : Appends (g.W.Write.contents l.fn.writer.inner) (g.W.Write.contents l.writer.inner)
      (printed_matches l.options l.name l.number l.offset l.line all);
  counted : l.count ≡ min 1 (length all);
}

abbrev pub decreases-loop-found : goal.decreases-loop-found
decreases-loop-found g l = length l.line - l.from
