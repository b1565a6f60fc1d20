-- The positions of the matches of a greedy list.
use Rattle.std.specs.Prelude.{ℕ, ◌<◌, ◌≤◌, Bool, List, [], ◌∷◌, length}
use Rattle.literal_base.specs.MatchValue.{MatchValue}
use Rattle.literal_base.specs.Occurs.{NothingOccurs, between, rest_from}

-- the matches of a haystack from an offset on are non-empty, in order, and don't overlap. No pattern occurs whole
-- before the first, between two neighbours, or after the last
abbrev pub LieApart : List (List ℕ) → Bool → List ℕ → ℕ → List MatchValue → Type 0
LieApart patterns ignore_case haystack at [] = NothingOccurs patterns ignore_case haystack (rest_from haystack at)
LieApart patterns ignore_case haystack at (found ∷ more) =
    (at ≤ found.start)
    × (found.start < found.end)
    × (found.end ≤ length haystack)
    × NothingOccurs patterns ignore_case haystack (between at found.start)
    × LieApart patterns ignore_case haystack found.end more
