-- The number of states of an automaton.
use Rattle.std.specs.Prelude.{◌≡◌, ◌≢◌, ◌⊎◌, ℕ, ◌*◌, ◌-◌, ◌<◌, ◌≤◌, ◌^◌, true, List, [], length}
use Rattle.std.specs.List.{All, AllPairs}
use Rattle.literal_rows.specs.Table.{stride_of}
use Rattle.literal_rows.specs.Words.{begins_one}

-- distinct texts, each of which is empty or a prefix of a pattern
pub record AreStates (patterns texts : List (List ℕ)) : Type 0 where
  pub apart : AllPairs (λ (a b : List ℕ). a ≢ b) texts
  pub begun : All (λ text. (text ≡ []) ⊎ (begins_one patterns text ≡ true)) texts

-- there are too many such texts for the numbers in rows to index
abbrev pub HasTooManyStates : List (List ℕ) → ℕ → Type 0
HasTooManyStates patterns width =
    (texts : List (List ℕ)) × AreStates patterns texts × (2 ^ 31 - 1 < length texts * stride_of width)

-- the number of states: the largest number of such texts
pub record IsStateCount (patterns : List (List ℕ)) (count : ℕ) : Type 0 where
  pub texts : List (List ℕ)
  pub are_states : AreStates patterns texts
  pub count_is : count ≡ length texts
  pub most : (others : List (List ℕ)) → AreStates patterns others → length others ≤ count

-- the length of the rows of all states together
unfoldable pub IsRowsLength : List (List ℕ) → ℕ → ℕ → Type 0
IsRowsLength patterns width len = (count : ℕ) × IsStateCount patterns count × (len ≡ count * stride_of width)
