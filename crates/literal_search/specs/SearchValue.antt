-- How a search for leftmost matches is built.
use Rattle.std.specs.Prelude.{◌≡◌, ◌<◌, ◌⊎◌, ℕ, Bool, List}
use Rattle.std.specs.Prelude.{length, Option, Some, map}
use Rattle.std.specs.Borrow.{Bor}
use Rattle.std.specs.Iterator.{Drains, Yields}
use Rattle.literal_base.specs.declared.packed.MatchKind.{MatchKind}
use Rattle.literal_search.specs.declared.BuildError.{BuildError}
use Rattle.literal_search.specs.declared.BuildError.TheVariants.{EmptyPattern, OutOfMemory, TooManyPatterns}
use Rattle.literal_search.specs.declared.BuildError.TheVariants.{TooManyStates}
use Rattle.literal_ids.specs.declared.primitives.pattern_id.TheConstants.PatternID
pub use Rattle.literal_leftmost.specs.SearchValue.{LooksFor, MayRefuseList, ScansListAtMost, ScansThrice, ScansWithin}
pub use Rattle.literal_leftmost.specs.SearchValue.{SearchValue, first_part, looked_by, search_by}
unfoldable pub use Rattle.literal_leftmost.specs.SearchValue.{most_scanned}
pub use Rattle.literal_leftmost.specs.SearchValue.{shortest_of}
pub use Rattle.literal_rows.specs.Patterns.{CanBeKept, HoldsInClasses, NeedFewReversed, NeedFewStates}
unfoldable pub use Rattle.literal_rows.specs.Patterns.{NeedTooManyReversed, NeedTooManyStates}
pub use Rattle.literal_rows.specs.Patterns.{first_prefix, is_in_patterns, longest_of, reversed, unshadowed}
unfoldable pub use Rattle.literal_rows.specs.Patterns.{width_for}

module _ {U T : Type 0} (becomes : U → T → Type 0) (steps : T → Option (Bor (List ℕ)) → T → Type 0) (given : U) where
  -- the iterator gives exactly these patterns, and they can be kept
  abbrev pub GivesAll : List (List ℕ) → Type 0
  GivesAll patterns = (it : T) × (items : List (Bor (List ℕ))) × becomes given it × Drains steps it items
      × (patterns ≡ map (λ p. p.now) items) × CanBeKept patterns

  -- the iterator gives these patterns, which can be kept, and then one more
  pub record GivesNext (patterns : List (List ℕ)) (next : List ℕ) : Type 0 where
    pub iterator : T
    pub items : List (Bor (List ℕ))
    pub item : Bor (List ℕ)
    pub before : T
    pub after : T
    pub is_iterator : becomes given iterator
    pub gave : Yields steps iterator items before
    pub gives : steps before (Some item) after
    pub patterns_are : patterns ≡ map (λ p. p.now) items
    pub next_is : next ≡ item.now
    pub can_be_kept : CanBeKept patterns

  -- the answer is the search for all patterns that an iterator gives, which can be kept
  abbrev pub BuildsSearch : MatchKind → Bool → SearchValue → Type 0
  BuildsSearch kind ignore_case answer =
      (patterns : List (List ℕ)) × GivesAll patterns × (answer ≡ search_by kind ignore_case patterns)

  -- why no search is built: the next pattern is empty; it is not empty, but one too many; all patterns together need
  -- too many states; or memory was refused, for a pattern that is kept, or after all patterns, of which there is one or
  -- more
  abbrev pub RefusesSearch : (List (List ℕ) → Type 0) → BuildError → Type 0
  RefusesSearch NeedTooMany (EmptyPattern number) =
      (patterns : List (List ℕ)) × (next : List ℕ) × GivesNext patterns next × (length next ≡ 0)
      × (number ≡ length patterns)
  RefusesSearch NeedTooMany TooManyPatterns =
      (patterns : List (List ℕ)) × (next : List ℕ) × GivesNext patterns next × (0 < length next)
      × (length patterns ≡ PatternID.LIMIT)
  RefusesSearch NeedTooMany TooManyStates = (patterns : List (List ℕ)) × GivesAll patterns × NeedTooMany patterns
  RefusesSearch NeedTooMany OutOfMemory =
      ((patterns : List (List ℕ)) × (next : List ℕ) × GivesNext patterns next × (0 < length next)
      × (length patterns < PatternID.LIMIT))
      ⊎ ((patterns : List (List ℕ)) × GivesAll patterns × (0 < length patterns))
