use Rattle.std.proofs.Common.{◌≡◌, ◌++◌, length, map, take}
use Rattle.literal_rows.proofs.array.header_for.Given as goal

abbrev pub invariant-loop-pattern : goal.invariant-loop-pattern
invariant-loop-pattern l =
    l.header.items ≡ l.initial.header.items ++ map (λ pattern. length pattern.items) (take l.pattern-index l.patterns)
