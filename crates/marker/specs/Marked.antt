-- A text in which matches are marked.
use Rattle.std.specs.Prelude.{ℕ, List, [], ◌∷◌, ◌++◌, length}
use Rattle.std.specs.List.{slice_range}
use Rattle.literal_base.specs.MatchValue.{MatchValue}

-- the text from an offset on, with `[` before each match and `]` behind it
abbrev pub marked : List ℕ → ℕ → List MatchValue → List ℕ
marked text at [] = slice_range text at (length text)
marked text at (found ∷ more) =
    slice_range text at found.start ++ (0x5B ∷ slice_range text found.start found.end
    ++ (0x5D ∷ marked text found.end more))
