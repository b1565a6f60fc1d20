use Rattle.std.proofs.Common.{◌≡◌, ◌+◌, ◌≤◌, ℕ, length}
use Rattle.literal_base.specs.Occurs.{between, pattern_at}
use Rattle.litscan.specs.Asked.{OccursAsked}
use Rattle.litscan.proofs.asked.asked_at.Given as goal

-- what is as is asked for ends in the rest
abbrev pub invariant-loop-found : goal.invariant-loop-found
invariant-loop-found l = record {
  start : l.rest.start ≡ l.start;
  ordered : l.start ≤ l.rest.end;
  inside : l.rest.end ≤ l.end;
  ends : (i : ℕ) → OccursAsked l.search l.fn.options l.line (between l.start l.end) i l.start
      → l.start + length (pattern_at l.search.query.patterns i) ≤ l.rest.end;
}

abbrev pub decreases-loop-found : goal.decreases-loop-found
decreases-loop-found l = l.rest.end
