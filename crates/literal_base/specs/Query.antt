-- The query of a search.
use Rattle.std.specs.Prelude.{ℕ, List}
use Rattle.literal_base.specs.declared.packed.MatchKind.{MatchKind}

-- the query of a search: the match kind, and the patterns in the order of their numbers. It is all that contracts see
-- of a `Searcher`
pub record Query : Type 0 where
  pub kind : MatchKind
  pub patterns : List (List ℕ)
