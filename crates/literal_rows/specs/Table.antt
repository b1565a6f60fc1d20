-- Rows of numbers, one row for each state of an automaton.
use Rattle.std.specs.Prelude.{◌≡◌, ℕ, ◌+◌, ◌*◌, ◌-◌, ◌<◌, ◌≤◌, ◌^◌, List, [], ◌∷◌, ◌++◌, Option, None, Some}
use Rattle.std.specs.Prelude.{length, slice_index}
use Rattle.std.specs.Option.{unwrap_or}
use Rattle.literal_rows.specs.Words.{ending, live_suffix, word_of}

-- the number in a row that says that no pattern ends with the state's word
abbrev pub nothing : ℕ
nothing = 2 ^ 32 - 1

-- the length of a row: a number for each symbol, and one for the pattern that ends with the state's word
abbrev pub stride_of : ℕ → ℕ
stride_of width = width + 1

-- the number for a state: the index at which its row begins, plus 2^31 if a pattern ends with its word
abbrev pub code_of : ℕ → Option ℕ → ℕ
code_of row None = row
code_of row (Some pattern) = row + 2 ^ 31

-- the number leads to the state with this word
pub record LeadsTo (patterns words : List (List ℕ)) (width code : ℕ) (word : List ℕ) : Type 0 where
  pub state : ℕ
  pub is_state : state < length words
  pub word_is : word_of words state ≡ word
  pub code_is : code ≡ code_of (state * stride_of width) (ending patterns word)

-- the rows are those of states with words; the first word is empty. From each word, each symbol leads to the live
-- suffix of the word and the symbol. The last number of a row is the pattern that ends with the word
pub record Recognises (patterns : List (List ℕ)) (width : ℕ) (rows : List ℕ) : Type 0 where
  pub words : List (List ℕ)
  pub some : 0 < length words
  pub root : word_of words 0 ≡ []
  pub full : length rows ≡ length words * stride_of width
  pub few : length rows ≤ 2 ^ 31 - 1
  pub leads : (state symbol : ℕ) → state < length words → symbol < width
      → LeadsTo patterns words width (slice_index rows (state * stride_of width + symbol))
      (live_suffix patterns (word_of words state ++ symbol ∷ []))
  pub ends : (state : ℕ) → state < length words
      → slice_index rows (state * stride_of width + width) ≡ unwrap_or (ending patterns (word_of words state)) nothing
