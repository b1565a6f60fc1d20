use Rattle.std.proofs.Common.{◌≡◌}
use Rattle.literal_search.specs.OverlappingMatchesValue.{OverlappingMatchesValue}
use Rattle.literal_c.specs.Inside.Resumed.{IsResumed}
use Rattle.literal_c.proofs.lemmas.Resumed.{left_of}
use Rattle.literal_c.proofs.resumed.ResumedOccurrences.next_match.Given as goal

abbrev pub invariant-loop-it : goal.invariant-loop-it
invariant-loop-it l = record {
  end : l.self.end ≡ l.initial.self.end;
  pattern : l.self.pattern ≡ l.initial.self.pattern;
  numbers : l.self.matches.numbers ≡ l.initial.self.matches.numbers;
  span : l.self.matches.span ≡ l.initial.self.matches.span;
  stands : (m : OverlappingMatchesValue) → IsResumed l.initial.self m → IsResumed l.self m;
}

abbrev pub decreases-loop-it : goal.decreases-loop-it
decreases-loop-it l = left_of l.self.matches
