use Rattle.std.proofs.Common.{◌≡◌, ◌-◌, ◌≤◌, ℕ, length}
use Rattle.literal_base.specs.Occurs.{rest_from}
use Rattle.litscan.specs.Asked.{OccursAsked}
use Rattle.litscan.proofs.asked.has_alone.Given as goal

-- what is allowed begins in the rest
abbrev pub invariant-loop-found : goal.invariant-loop-found
invariant-loop-found l = record {
  inside : l.rest.start ≤ length l.line;
  to_end : l.rest.end ≡ length l.line;
  begins : (i at : ℕ) → OccursAsked l.search l.options l.line (rest_from l.line 0) i at → l.rest.start ≤ at;
}

abbrev pub decreases-loop-found : goal.decreases-loop-found
decreases-loop-found l = length l.line - l.rest.start
