use Rattle.std.proofs.Common.{◌≡◌, ◌<◌, drop, length, map}
use Rattle.std.specs.Prelude.{min}
use Rattle.literal_search.specs.SearchValue.{shortest_of}
use Rattle.literal_search.proofs.shortest_len.Given as goal

abbrev pub invariant-loop-pattern : goal.invariant-loop-pattern
invariant-loop-pattern l = record {
  more : l.pattern-index < length l.patterns
      → min l.shortest (shortest_of (map (λ pattern. pattern.items) (drop l.pattern-index l.patterns)))
      ≡ shortest_of (map (λ pattern. pattern.items) l.patterns);
  all : l.pattern-index ≡ length l.patterns → 0 < length l.patterns
      → l.shortest ≡ shortest_of (map (λ pattern. pattern.items) l.patterns);
}
