-- The lengths in the array of a search.
use Rattle.std.specs.Prelude.{ℕ, List, [], ◌∷◌, min}
use Rattle.std.specs.List.{fold}

-- the smallest of some lengths, or 0 without any
abbrev pub shortest_in : List ℕ → ℕ
shortest_in [] = 0
shortest_in (len ∷ more) = fold min len more
