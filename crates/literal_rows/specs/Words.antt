-- Texts of symbols, one symbol for each byte, and the state of an automaton after a text. A pattern begins with a text
-- if the text is a prefix of the pattern.
use Rattle.std.specs.Prelude.{ℕ, ◌&&◌, Bool, List, [], ◌∷◌, if◌then◌else◌, nat_eq, Option, None, slice_index_or}
use Rattle.std.specs.List.{list_any, position, starts_with}
use Rattle.std.specs.Option.{option_or}

-- whether a pattern begins with a text
abbrev pub begins_one : List (List ℕ) → List ℕ → Bool
begins_one patterns text = list_any (λ pattern. starts_with nat_eq pattern text) patterns

-- the longest suffix of a text that is a prefix of a pattern: the word of the state that the text leads to
abbrev pub live_suffix : List (List ℕ) → List ℕ → List ℕ
live_suffix patterns [] = []
live_suffix patterns (symbol ∷ more) =
    if begins_one patterns (symbol ∷ more) then symbol ∷ more else live_suffix patterns more

-- the number of the first pattern that equals the text
abbrev pub first_equal : List (List ℕ) → List ℕ → Option ℕ
first_equal patterns text =
    position (λ pattern. starts_with nat_eq pattern text && starts_with nat_eq text pattern) patterns

-- the number of the longest pattern that is a suffix of a text, and of equal ones the first
abbrev pub ending : List (List ℕ) → List ℕ → Option ℕ
ending patterns [] = None
ending patterns (symbol ∷ more) = option_or (first_equal patterns (symbol ∷ more)) (ending patterns more)

-- the word of a state, or the empty text if there is no such state
abbrev pub word_of : List (List ℕ) → ℕ → List ℕ
word_of words state = slice_index_or words state []
