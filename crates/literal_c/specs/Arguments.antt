-- The arguments of C, and the status of a call.
use Rattle.std.specs.Prelude.{◌≡◌, ◌⊎◌, ◌↔◌, ◌==◌, ℕ, ℤ, ◌<◌, ◌≤◌, Bool, List, length, if◌then◌else◌, not}
use Rattle.literal_base.specs.declared.packed.MatchKind.{MatchKind}
use Rattle.literal_base.specs.declared.packed.MatchKind.TheVariants.{LeftmostFirst, LeftmostLongest}
use Rattle.literal_base.specs.Query.{Query}
use Rattle.literal_search.specs.SearchValue.{CanBeKept, NeedTooManyReversed, SearchValue, search_by}
use Rattle.literal_search.specs.Prepared.{ForPrepared, HasAllParts}
use Rattle.literal_search.specs.PreparedOverlapping.{ForOverlapping, HasLists}
use Rattle.literal_c.specs.declared.TheConstants.{LITERAL_BAD_ARGUMENTS, LITERAL_LEFTMOST_FIRST}
use Rattle.literal_c.specs.declared.TheConstants.{LITERAL_LEFTMOST_LONGEST}
use Rattle.literal_c.specs.declared.TheConstants.{LITERAL_NONE, LITERAL_NO_SEARCHER, LITERAL_OK}
use Rattle.literal_c.specs.declared.TheConstants.{LITERAL_DAMAGED, LITERAL_OUT_OF_MEMORY, LITERAL_TOO_LARGE}
use Rattle.literal_c.specs.Pieces.{AreEnds, pieces}

-- a number of a match kind: 0 for `LeftmostFirst`, and 1 for `LeftmostLongest`
abbrev pub IsKind : ℕ → Type 0
IsKind number = number ≤ LITERAL_LEFTMOST_LONGEST

-- the match kind of a number
abbrev pub kind_of : ℕ → MatchKind
kind_of number = if number == LITERAL_LEFTMOST_FIRST then LeftmostFirst else LeftmostLongest

-- the number of a match kind
abbrev pub number_of : MatchKind → ℕ
number_of LeftmostFirst = LITERAL_LEFTMOST_FIRST
number_of LeftmostLongest = LITERAL_LEFTMOST_LONGEST

-- a flag by its number: 0 is false, and every other number is true
abbrev pub is_set : ℕ → Bool
is_set number = not (number == 0)

-- the query: the match kind of a number, and the pieces of a buffer
abbrev pub argument_query : ℕ → List ℕ → List ℕ → Query
argument_query kind patterns ends = record { kind = kind_of kind; patterns = pieces patterns 0 ends }

-- the search for this query, with the flag for ASCII case
abbrev pub argument_search : ℕ → ℕ → List ℕ → List ℕ → SearchValue
argument_search kind ignore_case patterns ends = search_by (kind_of kind) (is_set ignore_case) (pieces patterns 0 ends)

-- the arguments are valid: the number is that of a match kind, and the buffer can be cut at the ends
pub record Agree (kind : ℕ) (patterns ends : List ℕ) : Type 0 where
  pub is_kind : IsKind kind
  pub are_ends : AreEnds (length patterns) 0 ends

-- a search for the pieces of a buffer needs too many states
abbrev pub NeedTooMany : ℕ → List ℕ → List ℕ → Type 0
NeedTooMany ignore_case patterns ends = NeedTooManyReversed (is_set ignore_case) (pieces patterns 0 ends)

-- the status of a call that has to search for the patterns. It is `LITERAL_BAD_ARGUMENTS` exactly if the arguments are
-- not valid, `LITERAL_NO_SEARCHER` exactly if they are and the patterns can't be searched for, and one of the other
-- four exactly if both are fine. It is `LITERAL_OUT_OF_MEMORY` only if there is a pattern, and `LITERAL_TOO_LARGE` only
-- if the patterns are too large
pub record IsStatus (agree : Type 0) (patterns : List (List ℕ)) (are_too_large : Type 0) (status : ℤ) : Type 0 where
  pub bad_arguments : (status ≡ LITERAL_BAD_ARGUMENTS) ↔ ¬ agree
  pub no_searcher : (status ≡ LITERAL_NO_SEARCHER) ↔ (agree × ¬ CanBeKept patterns)
  pub searched : ((status ≡ LITERAL_OK) ⊎ ((status ≡ LITERAL_NONE) ⊎ ((status ≡ LITERAL_OUT_OF_MEMORY)
      ⊎ (status ≡ LITERAL_TOO_LARGE)))) ↔ (agree × CanBeKept patterns)
  pub out_of_memory : status ≡ LITERAL_OUT_OF_MEMORY → 0 < length patterns
  pub too_large : status ≡ LITERAL_TOO_LARGE → are_too_large

-- the status of a call that searches by an array. It is `LITERAL_BAD_ARGUMENTS` exactly if the other arguments are not
-- valid; otherwise the search is done, or it is `LITERAL_DAMAGED`: always if the array does not have the parts of a
-- search, and never if it is prepared
pub record IsStatusOf (has_parts : Type 0) (IfPrepared : Type 0 → Type 0) (agree : Type 0) (IsDone : ℤ → Type 0)
    (status : ℤ) : Type 0 where
  pub bad_arguments : (status ≡ LITERAL_BAD_ARGUMENTS) ↔ ¬ agree
  pub searched : agree → IsDone status ⊎ (status ≡ LITERAL_DAMAGED)
  pub damaged : agree → ¬ has_parts → status ≡ LITERAL_DAMAGED
  pub prepared : IfPrepared (¬ (status ≡ LITERAL_DAMAGED))

-- `IsStatusOf` for an array of a search for leftmost matches
abbrev pub IsStatusBy : List ℕ → Type 0 → (ℤ → Type 0) → ℤ → Type 0
IsStatusBy array = IsStatusOf (HasAllParts array) (λ P. ForPrepared array (λ _. P))

-- `IsStatusOf` for an array of a search for every occurrence
abbrev pub IsOverlappingStatusBy : List ℕ → Type 0 → (ℤ → Type 0) → ℤ → Type 0
IsOverlappingStatusBy array = IsStatusOf (HasLists array) (λ P. ForOverlapping array (λ _. P))
