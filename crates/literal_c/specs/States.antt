-- States of the automaton in an array for every occurrence, for loops in C.
use Rattle.std.specs.Prelude.{◌≡◌, ◌⊎◌, ℕ, ℤ, Bool, ◌-◌, ◌<◌, List, drop, if◌then◌else◌, length}
use Rattle.std.specs.Prelude.{slice_index, take}
use Rattle.literal_base.specs.Occurs.{between, whole_of}
use Rattle.literal_search.specs.Automaton.{AreAtEnd, IsStateAfter}
use Rattle.literal_search.specs.Overlapping.{OverlappingValue}
use Rattle.literal_search.specs.PreparedOverlapping.{ForOverlapping, HasLists, tables_in}
use Rattle.literal_search.specs.PreparedStates.{HasRow, IsWalked}
use Rattle.literal_c.specs.Arguments.{IsStatusOf}
use Rattle.literal_c.specs.declared.TheConstants.{LITERAL_DAMAGED, LITERAL_NONE, LITERAL_OK}

-- a property holds of every search for which the array is prepared, and of every text after which this is its state
abbrev pub ForState : List ℕ → ℕ → (OverlappingValue → List ℕ → Type 0) → Type 0
ForState array state P = ForOverlapping array (λ search. (text : List ℕ)
    → IsStateAfter (tables_in search array) text state → P search text)

-- the status of a call that goes on from a state by an array: `LITERAL_DAMAGED` also if the array has no row for the
-- state, and never if it is prepared and the state is one of its states
pub record IsStateStatus (array : List ℕ) (state : ℕ) (agree : Type 0) (IsDone : ℤ → Type 0) (status : ℤ)
    : Type 0 where
  pub by_array : IsStatusOf (HasLists array) (λ P. ForState array state (λ _ _. P)) agree IsDone status
  pub no_row : agree → ¬ HasRow array state → status ≡ LITERAL_DAMAGED

-- a walk from a state has stopped at an offset, in a state: with `LITERAL_OK` at the first offset after the start at
-- which a pattern ends, and with `LITERAL_NONE` at the end, if there is none
abbrev pub HasStopped : List ℕ → OverlappingValue → List ℕ → List ℕ → ℕ → ℕ → ℤ → ℕ → ℕ → Type 0
HasStopped array search text haystack start end status next at = (is_match : Bool)
    × IsWalked (tables_in search array) text haystack (between start end)
    (record { state = next; at = at; is_match = is_match })
    × (status ≡ (if is_match then LITERAL_OK else LITERAL_NONE))

-- each number of an array is unchanged, or below a limit
abbrev pub ChangesAreBelow : ℕ → List ℕ → List ℕ → Type 0
ChangesAreBelow limit old new = (i : ℕ) → (slice_index new i ≡ slice_index old i) ⊎ (slice_index new i < limit)

-- a page of the patterns that are suffixes of a text: their numbers in ascending order from an index on, as many as
-- there is room for. The rest of the array is unchanged, and `total` is the number of all
pub record IsEndingPage (search : OverlappingValue) (text : List ℕ) (from : ℕ) (old new : List ℕ) (total : ℕ)
    : Type 0 where
  pub all : List ℕ
  pub are_all : AreAtEnd search.patterns search.ignore_case text (whole_of text) all
  pub total_is : total ≡ length all
  pub written : take (total - from) new ≡ take (length new) (drop from all)
  pub others : drop (total - from) new ≡ drop (total - from) old
