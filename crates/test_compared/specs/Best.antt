-- The preferred one of the first patterns of a list that occur at an offset.
use Rattle.std.specs.Prelude.{ℕ, ◌<◌, Bool, List, Option, MatchOption}
use Rattle.literal_base.specs.declared.search.Span.{Span}
use Rattle.literal_base.specs.Occurs.{Occurs}
use Rattle.literal_base.specs.Query.{Query}
use Rattle.literal_base.specs.Leftmost.{IsBetter}

module _ (query : Query) (ignore_case : Bool) (haystack : List ℕ) (span : Span) (at n : ℕ) where
  -- none of the first n patterns occurs at the offset
  abbrev pub NoneOccursOf : Type 0
  NoneOccursOf = (i : ℕ) → i < n → ¬ Occurs query.patterns ignore_case haystack span i at

  -- pattern b is one of the first n patterns and occurs at the offset, and none of them that is preferred to it does.
  -- After n turns, a loop of the plain search has found it
  pub record IsBestOf (b : ℕ) : Type 0 where
    pub below : b < n
    pub occurs : Occurs query.patterns ignore_case haystack span b at
    pub best : (i : ℕ) → i < n → IsBetter query.kind query.patterns i b
        → ¬ Occurs query.patterns ignore_case haystack span i at

  -- the preferred one of the first n patterns that occur at the offset, or None exactly if none of them does
  abbrev pub IsBestIfAny : Option ℕ → Type 0
  IsBestIfAny answer = MatchOption answer NoneOccursOf IsBestOf
