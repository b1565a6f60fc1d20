-- How a search with Unicode's case ignored is built.
use Rattle.std.specs.Prelude.{◌≡◌, ◌<◌, ℕ, false, List, Option, length, map}
use Rattle.std.specs.Borrow.{Bor}
use Rattle.literal_base.specs.Query.{Query}
use Rattle.literal_base.specs.declared.packed.MatchKind.{MatchKind}
use Rattle.literal_search.specs.SearchValue.{GivesAll, NeedTooManyReversed, SearchValue}
use Rattle.literal_search.specs.declared.BuildError.{BuildError}
use Rattle.literal_search.specs.declared.BuildError.TheVariants.{EmptyPattern, OutOfMemory, TooManyPatterns}
use Rattle.literal_search.specs.declared.BuildError.TheVariants.{TooManyStates}
use Rattle.literal_folding.specs.Folding.{folded}

-- the search for a query, with case kept
abbrev pub kept_case : Query → SearchValue
kept_case query = record { query = query; ignore_case = false }

-- the automaton of the folded patterns has more states than the numbers in its rows can index
abbrev pub NeedTooManyFolded : List (List ℕ) → Type 0
NeedTooManyFolded patterns = NeedTooManyReversed false (map folded patterns)

module _ {U T : Type 0} (becomes : U → T → Type 0) (steps : T → Option (Bor (List ℕ)) → T → Type 0) (given : U) where
  -- the query is for all patterns that an iterator gives, folded
  abbrev pub BuildsFolded : MatchKind → Query → Type 0
  BuildsFolded kind answer = (patterns : List (List ℕ)) × GivesAll becomes steps given patterns
      × (answer ≡ record { kind = kind; patterns = map folded patterns })

  -- these are all patterns that an iterator gives, folded
  abbrev pub AreFolded : List (List ℕ) → Type 0
  AreFolded texts = (patterns : List (List ℕ)) × GivesAll becomes steps given patterns
      × (texts ≡ map folded patterns)

-- why no search is built for folded patterns that can be kept: they need too many states, or memory was refused and
-- there is a pattern
abbrev pub RefusesFolded : List (List ℕ) → BuildError → Type 0
RefusesFolded patterns (EmptyPattern number) = ⊥
RefusesFolded patterns TooManyPatterns = ⊥
RefusesFolded patterns TooManyStates = NeedTooManyReversed false patterns
RefusesFolded patterns OutOfMemory = 0 < length patterns
