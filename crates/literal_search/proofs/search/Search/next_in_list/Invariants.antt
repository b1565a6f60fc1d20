use Rattle.std.proofs.Common.{◌≡◌, ◌+◌, ◌<◌, ◌≤◌, ◌⊎◌, IfSome, MatchOption, length, ℕ}
use Rattle.literal_base.specs.Occurs.{pattern_at}
use Rattle.literal_search.specs.At.{OccursFirst}
use Rattle.literal_search.proofs.search.Search.next_in_list.Given as goal

-- each pattern that counts fits in the rest, or the match so far is no later in the list
abbrev pub invariant-loop-found : goal.invariant-loop-found
invariant-loop-found l =
    let First : ℕ → Type 0 = OccursFirst l.self.query.patterns l.self.ignore_case l.haystack l.fn.span in
    let size : ℕ → ℕ = λ i. length (pattern_at l.self.query.patterns i) in
    let fits : ℕ → Type 0 = λ i. l.fn.span.start + size i ≤ l.rest.end in
    record {
      start : l.rest.start ≡ l.fn.span.start;
      ordered : l.rest.start ≤ l.rest.end;
      inside : l.rest.end ≤ l.fn.span.end;
      some : IfSome l.next (λ found. found.start < found.end);
      seen : MatchOption l.next ((i : ℕ) → l.fn.from ≤ i → First i → fits i)
          (λ found. First found.pattern × (found.start ≡ l.fn.span.start)
          × (found.end ≡ found.start + size found.pattern) × (l.fn.from ≤ found.pattern)
          × ((i : ℕ) → l.fn.from ≤ i → First i → fits i ⊎ (found.pattern ≤ i)));
    }

abbrev pub decreases-loop-found : goal.decreases-loop-found
decreases-loop-found l = l.rest.end
