-- The fields of `Parts`, and definitions for private functions that build a search.
use Rattle.std.specs.Prelude.{◌≡◌, ◌<◌, ℕ, List, length, map}
use Rattle.literal_base.specs.Occurs.{IsValidSpan}
use Rattle.literal_base.specs.declared.search.Span.{Span}
use Rattle.literal_search.specs.SearchValue.{SearchValue, search_by, shortest_of, width_for}
use Rattle.literal_leftmost.specs.Inside.Backward.{AreBackFor, IsSafe, back_tables_by}
use Rattle.literal_leftmost.specs.Inside.Cursor.{IsCursor, KnowsAhead}
use Rattle.literal_search.specs.Prepared.{rows_in, width_in}
use Rattle.literal_search.specs.Prepared.{BackTables, IsPrepared, back_tables_in, prepared_len, texts_back}
use Rattle.literal_rows.specs.States.{IsRowsLength}
use Rattle.literal_search.specs.declared.BuildError.{BuildError}
use Rattle.literal_search.specs.declared.BuildError.TheVariants.{OutOfMemory, TooManyStates}
use Rattle.literal_leftmost.specs.declared.backward.Backward.{Backward}
use Rattle.literal_leftmost.specs.declared.cursor.Cursor.{Cursor}
use Rattle.literal_rows.specs.declared.grow.GrowError.{GrowError}
use Rattle.literal_rows.specs.declared.grow.GrowError.TheVariants as grow_error
use Rattle.literal_search.specs.declared.search.Parts.{Parts}

-- the patterns
abbrev pub patterns_of : Parts → List (List ℕ)
patterns_of p = map (λ pattern. pattern.items) p.patterns.items

-- a `Search` as callers see it
abbrev pub search_value : Parts → SearchValue
search_value p = search_by p.kind p.ignore_case (patterns_of p)

-- the tables of a backward walk
abbrev pub tables_of : Parts → BackTables
tables_of p = back_tables_in (search_value p) p.numbers

-- the numbers are just those prepared for a search, with as many classes and rows as the patterns need
pub record AreKept (search : SearchValue) (numbers : List ℕ) : Type 0 where
  pub prepared : IsPrepared search numbers
  pub long : length numbers ≡ prepared_len numbers
  pub width : width_in numbers ≡ width_for search.ignore_case search.query.patterns
  pub rows : IsRowsLength (texts_back (back_tables_in search numbers)) (width_in numbers)
      (length (rows_in numbers))

-- the fields hold the numbers of the search
abbrev pub AreParts : Parts → Type 0
AreParts p = AreKept (search_value p) p.numbers

-- an iteration over a valid span, by the tables of a search
pub record GoesOn (parts : Parts) (b : Backward) (haystack : List ℕ) (span : Span) (c : Cursor) : Type 0 where
  pub are : AreParts parts
  pub valid : IsValidSpan haystack span
  pub safe : IsSafe b
  pub is_for : AreBackFor (search_value parts) b
  pub cursor : IsCursor b.table.longest span c
  pub knows : KnowsAhead (back_tables_by (search_value parts) b) haystack span c

-- this is the length of the shortest pattern, if there is one
abbrev pub IsShortestOf : ℕ → List (List ℕ) → Type 0
IsShortestOf n patterns = 0 < length patterns → n ≡ shortest_of patterns

-- the error with the same name
abbrev pub IsErrorOf : GrowError → BuildError → Type 0
IsErrorOf grow_error.OutOfMemory error = error ≡ OutOfMemory
IsErrorOf grow_error.TooManyStates error = error ≡ TooManyStates
