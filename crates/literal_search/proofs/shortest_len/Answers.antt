use Rattle.std.proofs.Common.{◌≡◌, ◌<◌, ◌-◌, ◌^◌, ℕ, List, [], ◌∷◌, arith, length, map}
use Rattle.std.proofs.lemmas.Grind.{common_steps}
use Rattle.std.specs.Global.{Vec}
use Rattle.std.specs.Prelude.{min}
use Rattle.literal_search.specs.SearchValue.{shortest_of}
use Rattle.literal_search.proofs.shortest_len.Goals as goal

shortest-cons : (bytes : List ℕ) (more : List (List ℕ)) → 0 < length more
    → shortest_of (bytes ∷ more) ≡ min (length bytes) (shortest_of more)
shortest-cons bytes more some = grind arith

-- none is longer than a `usize` counts
all_fit : (patterns : List (Vec ℕ)) → 0 < length patterns
    → min (2 ^ 64 - 1) (shortest_of (map (λ pattern. pattern.items) patterns))
    ≡ shortest_of (map (λ pattern. pattern.items) patterns)
all_fit [] some = absurd (omega arith)
all_fit (first ∷ []) some = grind arith
all_fit (first ∷ (next ∷ more)) some = grind arith

pub loop-pattern-init : goal.loop-pattern-init
loop-pattern-init c = grind (arith, all_fit)

pub loop-pattern-preserved : goal.loop-pattern-preserved
loop-pattern-preserved c = grind (arith, common_steps, shortest-cons)
