use Rattle.std.proofs.Common.{◌-◌, ◌≤◌, ℕ, length}
use Rattle.literal_base.specs.Occurs.{rest_from}
use Rattle.litscan.specs.Asked.{OccursAsked}
use Rattle.litscan.specs.Inside.Asked.{IsAlong}
use Rattle.litscan.proofs.asked.next_asked.Given as goal

-- what is allowed begins where the iteration continues, or after it
abbrev pub invariant-loop-found : goal.invariant-loop-found
invariant-loop-found l = record {
  along : IsAlong l.search l.line l.starts.at l.starts;
  begins : (i at : ℕ) → OccursAsked l.search l.fn.options l.line (rest_from l.line l.from) i at → l.starts.at ≤ at;
}

abbrev pub decreases-loop-found : goal.decreases-loop-found
decreases-loop-found l = length l.line - l.starts.at
