-- A collection of patterns as contracts see it.
use Rattle.std.specs.Prelude.{ℕ, ◌≤◌, ◌-◌, ◌^◌, List, [], ◌∷◌, ◌++◌, length, map, fold, min, sum_by}
use Rattle.std.specs.List.{AllPairs, range_with_len}
use Rattle.std.specs.List.Sorted.{IsPermutation}
use Rattle.literal_base.specs.declared.packed.MatchKind.{MatchKind}
use Rattle.literal_base.specs.declared.packed.MatchKind.TheVariants.{LeftmostFirst}
use Rattle.literal_base.specs.Occurs.{NoneIsEmpty, pattern_at}
use Rattle.literal_base.specs.Leftmost.{IsBetter}
use Rattle.literal_base.specs.Query.{Query}

-- a `Patterns` as contracts see it: the match kind, the patterns in the order of their identifiers, and the identifiers
-- in match order, in which the patterns are tried
pub record PatternsValue : Type 0 where
  pub kind : MatchKind
  pub patterns : List (List ℕ)
  pub order : List ℕ

-- the query of a search for these patterns: their match kind, and the patterns
abbrev pub query_of : PatternsValue → Query
query_of c = record { kind = c.kind; patterns = c.patterns }

-- a collection without patterns
abbrev pub no_patterns : PatternsValue
no_patterns = record { kind = LeftmostFirst; patterns = []; order = [] }

-- a collection with one more pattern, which gets the next identifier and is tried last
abbrev pub with_pattern : PatternsValue → List ℕ → PatternsValue
with_pattern c bytes =
    record { kind = c.kind; patterns = c.patterns ++ bytes ∷ []; order = c.order ++ length c.patterns ∷ [] }

-- the length of the shortest pattern, or `usize::MAX` if there is none
abbrev pub minimum_len_of : List (List ℕ) → ℕ
minimum_len_of patterns = fold (λ n bytes. min n (length bytes)) (2 ^ 64 - 1) patterns

-- the length of all patterns together
abbrev pub total_len : List (List ℕ) → ℕ
total_len patterns = sum_by length patterns

-- the patterns with their identifiers, in match order
abbrev pub in_order : PatternsValue → List (ℕ × List ℕ)
in_order c = map (λ i. (i, pattern_at c.patterns i)) c.order

-- the invariant of a collection: each pattern is tried once, none is empty, and the last one has an identifier
pub record IsWellFormed (c : PatternsValue) : Type 0 where
  pub once : IsPermutation (range_with_len 0 (length c.patterns)) c.order
  pub not_empty : NoneIsEmpty c.patterns
  pub numbered : length c.patterns ≤ 2147483647

-- each pattern is tried before those to which it is preferred
abbrev pub IsInOrder : PatternsValue → Type 0
IsInOrder c = AllPairs (IsBetter c.kind c.patterns) c.order

-- patterns for a search: well formed, and in match order
pub record IsSearchable (c : PatternsValue) : Type 0 where
  pub well_formed : IsWellFormed c
  pub in_order : IsInOrder c
