-- Lists of patterns, and which automata can be built for them.
use Rattle.std.specs.Prelude.{◌==◌, [], ◌∷◌, max, min, ◌+◌, ◌≤◌, ℕ, Bool, List}
use Rattle.std.specs.Prelude.{length, map, nat_eq, reverse}
use Rattle.std.specs.List.{count_by, find, list_any, range_with_len, starts_with}
use Rattle.std.specs.Option.{unwrap_or}
use Rattle.literal_base.specs.Occurs.{NoneIsEmpty}
use Rattle.literal_base.specs.declared.packed.MatchKind.{MatchKind}
use Rattle.literal_base.specs.declared.packed.MatchKind.TheVariants.{LeftmostFirst, LeftmostLongest}
use Rattle.literal_rows.specs.Inside.Classes.{AreClasses, Tells, folded, symbols_in}
use Rattle.literal_rows.specs.States.{HasTooManyStates}
use Rattle.literal_ids.specs.declared.primitives.pattern_id.TheConstants.PatternID

-- the patterns can be kept: none is empty, and there are identifiers for all
pub record CanBeKept (patterns : List (List ℕ)) : Type 0 where
  pub some : NoneIsEmpty patterns
  pub few : length patterns ≤ PatternID.LIMIT

-- whether a byte occurs in the patterns, which are folded if case is ignored
abbrev pub is_in_patterns : Bool → List (List ℕ) → ℕ → Bool
is_in_patterns ignore_case patterns byte =
    list_any (λ pattern. list_any (λ b. folded ignore_case b == byte) pattern) patterns

-- the number of classes: one for each such byte, and one for all others, at most 256
unfoldable pub width_for : Bool → List (List ℕ) → ℕ
width_for ignore_case patterns =
    min (count_by (is_in_patterns ignore_case patterns) (range_with_len 0 256) + 1) 256

-- a property holds of the patterns as texts of classes, in some classes that distinguish the bytes of the patterns
abbrev pub HoldsInClasses : (List (List ℕ) → ℕ → Type 0) → Bool → List (List ℕ) → Type 0
HoldsInClasses P ignore_case patterns =
    (classes : List ℕ) × AreClasses classes (width_for ignore_case patterns) × Tells ignore_case classes patterns
    × P (map (symbols_in classes) patterns) (width_for ignore_case patterns)

-- the automaton of the patterns has more states than the numbers in its rows can index
unfoldable pub NeedTooManyStates : Bool → List (List ℕ) → Type 0
NeedTooManyStates ignore_case patterns = HoldsInClasses HasTooManyStates ignore_case patterns

-- the numbers in its rows can index all its states
abbrev pub NeedFewStates : Bool → List (List ℕ) → Type 0
NeedFewStates ignore_case patterns =
    HoldsInClasses (λ texts width. ¬ HasTooManyStates texts width) ignore_case patterns

-- the length of the longest pattern, or 0 if there is none
abbrev pub longest_of : List (List ℕ) → ℕ
longest_of [] = 0
longest_of (bytes ∷ more) = max (length bytes) (longest_of more)

-- the first text in a list that is a prefix of a text
abbrev pub first_prefix : List (List ℕ) → List ℕ → List ℕ
first_prefix texts text = unwrap_or (find (λ prefix. starts_with nat_eq text prefix) texts) text

-- the text that a search uses for each pattern. If the first in the list is preferred, a text never matches if an
-- earlier one is its prefix; the first such prefix replaces it
abbrev pub unshadowed : MatchKind → List (List ℕ) → List (List ℕ)
unshadowed LeftmostFirst texts = map (first_prefix texts) texts
unshadowed LeftmostLongest texts = texts

-- each pattern reversed
abbrev pub reversed : List (List ℕ) → List (List ℕ)
reversed patterns = map (λ (pattern : List ℕ). reverse pattern) patterns

-- the automaton of the reversed patterns has more states than the numbers in its rows can index
unfoldable pub NeedTooManyReversed : Bool → List (List ℕ) → Type 0
NeedTooManyReversed ignore_case patterns =
    HoldsInClasses (λ texts width. HasTooManyStates (reversed texts) width) ignore_case patterns

-- the numbers in its rows can index all its states
abbrev pub NeedFewReversed : Bool → List (List ℕ) → Type 0
NeedFewReversed ignore_case patterns =
    HoldsInClasses (λ texts width. ¬ HasTooManyStates (reversed texts) width) ignore_case patterns
