use Rattle.std.proofs.Common.{◌≡◌, drop, map}
use Rattle.std.specs.Prelude.{max}
use Rattle.literal_rows.specs.Patterns.{longest_of}
use Rattle.literal_rows.proofs.longest_len.Given as goal

abbrev pub invariant-loop-pattern : goal.invariant-loop-pattern
invariant-loop-pattern l =
    max l.longest (longest_of (map (λ pattern. pattern.items) (drop l.pattern-index l.patterns)))
    ≡ longest_of (map (λ pattern. pattern.items) l.patterns)
