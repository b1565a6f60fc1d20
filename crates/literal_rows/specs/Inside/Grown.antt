-- The words of states while these are made.
use Rattle.std.specs.Prelude.{◌≡◌, ◌≢◌, ◌⊎◌, ℕ, ◌+◌, ◌*◌, ◌<◌, ◌≤◌, ◌==◌, ◌&&◌, Bool, true, List, [], ◌∷◌, ◌++◌}
use Rattle.std.specs.Prelude.{length, map, nat_eq, nat_lt, slice_index, slice_index_or}
use Rattle.std.specs.List.{filter, range_with_len, starts_with}
use Rattle.std.specs.Option.{unwrap_or}
use Rattle.literal_base.specs.Occurs.{pattern_at}
use Rattle.literal_rows.specs.Table.{LeadsTo, nothing, stride_of}
use Rattle.literal_rows.specs.Words.{begins_one, ending, live_suffix, word_of}

-- whether a text has a symbol at an index
abbrev pub goes_on : List ℕ → ℕ → ℕ → Bool
goes_on text at symbol = nat_lt at (length text) && slice_index text at == symbol

-- the numbers of the patterns that begin with a word
abbrev pub list_for : List (List ℕ) → List ℕ → List ℕ
list_for patterns word =
    filter (λ i. starts_with nat_eq (pattern_at patterns i) word) (range_with_len 0 (length patterns))

-- the next symbol of each pattern that begins with a word, and 256 where a pattern ends
abbrev pub symbols_after : List (List ℕ) → List ℕ → List ℕ
symbols_after patterns word =
    map (λ i. slice_index_or (pattern_at patterns i) (length word) 256) (list_for patterns word)

-- the word of the failure state of a text's state: the live suffix of the text without its first symbol
abbrev pub failure_of : List (List ℕ) → List ℕ → List ℕ
failure_of patterns [] = []
failure_of patterns (symbol ∷ more) = live_suffix patterns more

-- some words, and perhaps more after them
pub record IsLonger (words longer : List (List ℕ)) : Type 0 where
  pub more : length words ≤ length longer
  pub same : (state : ℕ) → state < length words → word_of longer state ≡ word_of words state

-- rows as far as they are filled: each number for a symbol leads to the next state, and the last number of a row is the
-- pattern that ends with the state's word
pub record AreRows (patterns words : List (List ℕ)) (width : ℕ) (rows : List ℕ) : Type 0 where
  pub leads : (state symbol : ℕ) → symbol < width → state * stride_of width + symbol < length rows
      → LeadsTo patterns words width (slice_index rows (state * stride_of width + symbol))
      (live_suffix patterns (word_of words state ++ symbol ∷ []))
  pub ends : (state : ℕ) → state * stride_of width + width < length rows
      → slice_index rows (state * stride_of width + width)
      ≡ unwrap_or (ending patterns (word_of words state)) nothing

-- a state's word is the word of another state and a symbol, whose number has an index below a bound
pub record IsMade (words : List (List ℕ)) (width upto n : ℕ) : Type 0 where
  pub state : ℕ
  pub symbol : ℕ
  pub is_state : state < length words
  pub is_symbol : symbol < width
  pub early : state * stride_of width + symbol < upto
  pub word_is : word_of words n ≡ word_of words state ++ symbol ∷ []

-- the words are those of distinct states, made from the rows before an index
pub record AreWords (patterns words : List (List ℕ)) (width upto : ℕ) : Type 0 where
  pub root : word_of words 0 ≡ []
  pub apart : (i j : ℕ) → i < j → j < length words → word_of words i ≢ word_of words j
  pub begun : (n : ℕ) → n < length words
      → (word_of words n ≡ []) ⊎ (begins_one patterns (word_of words n) ≡ true)
  pub made : (n : ℕ) → 0 < n → n < length words → IsMade words width upto n
