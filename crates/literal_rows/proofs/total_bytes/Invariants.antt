use Rattle.std.proofs.Common.{◌≡◌, ◌+◌, ◌*◌, ◌≤◌, ◌^◌, drop, length, map, sum_by}
use Rattle.literal_rows.proofs.total_bytes.Given as goal

abbrev pub invariant-loop-pattern : goal.invariant-loop-pattern
invariant-loop-pattern l = record {
  total : l.total + sum_by length (map (λ pattern. pattern.items) (drop l.pattern-index l.patterns))
      ≡ sum_by length (map (λ pattern. pattern.items) l.patterns);
  small : l.total ≤ l.pattern-index * 2 ^ 64;
}
