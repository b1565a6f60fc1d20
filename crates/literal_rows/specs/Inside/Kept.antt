-- The numbers of a search, as they are kept.
use Rattle.std.specs.Prelude.{ℕ, List, [], ◌∷◌, None, Option, Some}
use Rattle.literal_base.specs.declared.packed.MatchKind.{MatchKind}
use Rattle.literal_base.specs.declared.packed.MatchKind.TheVariants.{LeftmostFirst, LeftmostLongest}
use Rattle.literal_rows.specs.declared.array.TheConstants.{NO_LISTED, NO_PATTERN, NO_PATTERN_LONGEST}

-- the numbers of a search by a match kind, or for every occurrence. If there is no pattern, none are kept
abbrev pub numbers_kept : Option MatchKind → List ℕ → List ℕ
numbers_kept None [] = NO_LISTED
numbers_kept (Some LeftmostFirst) [] = NO_PATTERN
numbers_kept (Some LeftmostLongest) [] = NO_PATTERN_LONGEST
numbers_kept kind (number ∷ more) = number ∷ more
