-- The fields of `Construction`.
use Rattle.std.specs.Prelude.{◌≡◌, ℕ, ◌*◌, ◌-◌, ◌<◌, ◌≤◌, ◌^◌, List, [], ◌∷◌, ◌++◌, length, map}
use Rattle.std.specs.Prelude.{slice_index, slice_index_or, slice_range, take}
use Rattle.std.specs.Option.{unwrap_or}
use Rattle.literal_base.specs.Occurs.{pattern_at}
use Rattle.literal_rows.specs.Table.{LeadsTo, nothing, stride_of}
use Rattle.literal_rows.specs.Words.{ending, live_suffix, word_of}
use Rattle.literal_rows.specs.Inside.Classes.{AreClasses, symbols_in}
use Rattle.literal_rows.specs.Inside.Grown.{AreRows, AreWords, failure_of, list_for}
use Rattle.literal_rows.specs.declared.grow.Construction.{Construction}
use Rattle.literal_rows.specs.declared.texts.State.{State}
use Rattle.literal_rows.specs.declared.texts.Texts.{Texts}

-- the patterns as texts of symbols
abbrev pub texts_of : Texts → List (List ℕ)
texts_of t = map (λ pattern. symbols_in t.classes.now pattern.items) t.patterns.now

-- the word of a state: a prefix of a pattern
abbrev pub word_in : List (List ℕ) → State → List ℕ
word_in patterns s = take s.depth (pattern_at patterns s.pattern)

-- the words of states
abbrev pub words_in : Texts → List State → List (List ℕ)
words_in t states = map (word_in (texts_of t)) states

-- the words of all states
abbrev pub words_of : Construction → List (List ℕ)
words_of g = words_in g.texts g.states.items

-- the word of a state and one symbol more
abbrev pub word_after : Construction → ℕ → ℕ → List ℕ
word_after g state symbol = word_of (words_of g) state ++ symbol ∷ []

-- the patterns of a state's list
abbrev pub list_in : List ℕ → State → List ℕ
list_in lists s = slice_range lists s.start s.end

-- each byte has a class, and there are identifiers for all patterns
pub record AreTexts (t : Texts) : Type 0 where
  pub classes : AreClasses t.classes.now t.width
  pub few : length t.patterns.now ≤ 2 ^ 31 - 1

-- the number leads to the state with this word
abbrev pub LeadsIn : Construction → ℕ → List ℕ → Type 0
LeadsIn g code word = LeadsTo (texts_of g.texts) (words_of g) g.texts.width code word

-- a state's word is not empty, and its failure link leads to an earlier state: that of the live suffix of the word
-- without its first symbol
pub record HasFailure (patterns words : List (List ℕ)) (width n : ℕ) (s : State) : Type 0 where
  pub some : 0 < s.depth
  pub to : LeadsTo patterns words width s.failure (failure_of patterns (word_in patterns s))
  pub earlier : to.state < n

-- state `n` has a prefix of a pattern, the list of the patterns that begin with it, the pattern that ends with it, and
-- a failure link, unless it is the first
pub record IsStateAt (patterns words : List (List ℕ)) (width : ℕ) (lists : List ℕ) (n : ℕ)
    (s : State) : Type 0 where
  pub shallow : s.depth ≤ n
  pub prefix : s.depth ≤ length (pattern_at patterns s.pattern)
  pub ordered : s.start ≤ s.end
  pub inside : s.end ≤ length lists
  pub listed : list_in lists s ≡ list_for patterns (word_in patterns s)
  pub ended : s.ending ≡ unwrap_or (ending patterns (word_in patterns s)) nothing
  pub failure_is : 0 < n → HasFailure patterns words width n s

-- each state is valid, the first has the empty word, and the rows are valid as far as they are filled
pub record IsConstruction (t : Texts) (states : List State) (lists rows : List ℕ) : Type 0 where
  pub texts : AreTexts t
  pub some : 0 < length states
  pub root : word_of (words_in t states) 0 ≡ []
  pub few : length states * stride_of t.width ≤ 2 ^ 31 - 1
  pub filled : length rows ≤ length states * stride_of t.width
  pub numbers : (k d : ℕ) → k < length lists → slice_index_or lists k d < length t.patterns.now
  pub each : (n : ℕ) (d : State) → n < length states
      → IsStateAt (texts_of t) (words_in t states) t.width lists n (slice_index_or states n d)
  pub led : AreRows (texts_of t) (words_in t states) t.width rows

-- the fields are valid
abbrev pub Grows : Construction → Type 0
Grows g = IsConstruction g.texts g.states.items g.lists.items g.rows.items

-- this may be the next state
abbrev pub IsNextState : Construction → State → Type 0
IsNextState g s =
    IsStateAt (texts_of g.texts) (words_of g) g.texts.width g.lists.items (length g.states.items) s

-- the words are those of distinct states, made from the rows before an index
abbrev pub AreWordsTo : Construction → ℕ → Type 0
AreWordsTo g index = AreWords (texts_of g.texts) (words_of g) g.texts.width index

-- in a row, the numbers for the symbols below a bound lead to the states of the next live suffixes
abbrev pub LeadOn : Construction → ℕ → ℕ → List ℕ → Type 0
LeadOn g state below row = (symbol : ℕ) → symbol < below → symbol < g.texts.width
    → LeadsIn g (slice_index row symbol) (live_suffix (texts_of g.texts) (word_after g state symbol))

-- in a row, the numbers for the symbols from a bound on lead to the failure states of the next words
abbrev pub LeadBack : Construction → ℕ → ℕ → List ℕ → Type 0
LeadBack g state from row = (symbol : ℕ) → from ≤ symbol → symbol < g.texts.width
    → LeadsIn g (slice_index row symbol) (failure_of (texts_of g.texts) (word_after g state symbol))
