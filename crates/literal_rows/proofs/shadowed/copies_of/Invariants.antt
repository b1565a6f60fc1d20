use Rattle.std.proofs.Common.{◌≡◌, ℕ, map, take}
use Rattle.std.specs.Global.{Vec}
use Rattle.literal_base.specs.Occurs.{pattern_at}
use Rattle.literal_rows.specs.Patterns.{reversed}
use Rattle.literal_rows.proofs.shadowed.copies_of.Given as goal

abbrev pub invariant-loop-number : goal.invariant-loop-number
invariant-loop-number l =
    map (λ (v : Vec ℕ). v.items) l.all.items
    ≡ reversed (map (pattern_at (map (λ (v : Vec ℕ). v.items) l.patterns)) (take l.number-index l.numbers))
