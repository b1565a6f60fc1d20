-- The comparison by which the patterns are sorted for LeftmostLongest.
use Rattle.std.specs.Prelude.{ℕ, List, length, map}
use Rattle.std.specs.Ordering.{nat_cmp, ordering_then}
use Rattle.std.specs.declared.cmp.Ordering.{Ordering}
use Rattle.std.specs.declared.vec.Vec.{Vec}
use Rattle.literal_base.specs.Occurs.{pattern_at}

-- the bytes of each vector
abbrev pub bytes_of : {A : Type 0} → List (Vec ℕ A) → List (List ℕ)
bytes_of vectors = map (λ v. v.items) vectors

-- the comparison by which patterns are sorted: longer ones first, and those of equal length by their identifiers
abbrev pub longest_cmp : List (List ℕ) → ℕ → ℕ → Ordering
longest_cmp patterns i j =
    ordering_then (nat_cmp (length (pattern_at patterns j)) (length (pattern_at patterns i))) (nat_cmp i j)
