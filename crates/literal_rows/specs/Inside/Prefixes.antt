-- The first of some texts that is a prefix of each, and the last one before each among sorted ones.
use Rattle.std.specs.Prelude.{◌≡◌, ◌≢◌, ℕ, ◌<◌, ◌≤◌, List, MatchOption, None, Option, length, map, nat_eq, slice_index}
use Rattle.std.specs.Prelude.{slice_index_or, true}
use Rattle.std.specs.Cmp.Lexicographic.{slice_cmp}
use Rattle.std.specs.List.{starts_with}
use Rattle.std.specs.Ordering.{nat_cmp}
use Rattle.std.specs.declared.cmp.Ordering.TheVariants.{Greater}
use Rattle.literal_base.specs.Occurs.{pattern_at}
use Rattle.literal_rows.specs.declared.prefixes.Numbered.{Numbered}

-- the text begins with a word
abbrev pub StartsWith : List ℕ → List ℕ → Type 0
StartsWith text word = starts_with nat_eq text word ≡ true

-- this text is the first of a list that is a prefix of another
pub record IsFirstPrefix (texts : List (List ℕ)) (text : List ℕ) (first : ℕ) : Type 0 where
  pub is_text : first < length texts
  pub begins : StartsWith text (pattern_at texts first)
  pub least : (j : ℕ) → j < length texts → StartsWith text (pattern_at texts j) → first ≤ j

-- each text has the first one that is a prefix of it
pub record AreFirstPrefixes (texts : List (List ℕ)) (firsts : List ℕ) : Type 0 where
  pub long : length firsts ≡ length texts
  pub each : (i : ℕ) → i < length texts → IsFirstPrefix texts (pattern_at texts i) (slice_index firsts i)

-- the patterns as texts of classes
abbrev pub symbols_in_order : List Numbered → List (List ℕ)
symbols_in_order all = map (λ (n : Numbered). n.symbols.items) all

-- their numbers
abbrev pub numbers_in : List Numbered → List ℕ
numbers_in all = map (λ (n : Numbered). n.number) all

-- no word is greater than a later one
abbrev pub AreInOrder : List (List ℕ) → Type 0
AreInOrder words = (j k : ℕ) → j ≤ k → k < length words
    → slice_cmp nat_cmp (pattern_at words j) (pattern_at words k) ≢ Greater

-- the words are some texts, each with its number, in order; equal ones in the order of their numbers
pub record AreSorted (texts words : List (List ℕ)) (numbers : List ℕ) : Type 0 where
  pub long : length numbers ≡ length words
  pub is : (k : ℕ) → k < length words → (slice_index numbers k < length texts)
      × (pattern_at words k ≡ pattern_at texts (slice_index numbers k))
  pub has : (i : ℕ) → i < length texts → (k : ℕ) × (k < length words) × (slice_index numbers k ≡ i)
  pub ordered : AreInOrder words
  pub ties : (j k : ℕ) → j < k → k < length words → pattern_at words j ≡ pattern_at words k
      → slice_index numbers j ≤ slice_index numbers k

-- the last of the words before this one that is a prefix of it, if there is one
abbrev pub IsLastPrefix : List (List ℕ) → ℕ → Option ℕ → Type 0
IsLastPrefix words index answer = MatchOption answer
    ((k : ℕ) → k < index → ¬ StartsWith (pattern_at words index) (pattern_at words k))
    (λ last. (last < index) × StartsWith (pattern_at words index) (pattern_at words last)
    × ((k : ℕ) → k < index → StartsWith (pattern_at words index) (pattern_at words k) → k ≤ last))

-- these, for the first of some words
abbrev pub AreLastPrefixes : List (List ℕ) → List (Option ℕ) → Type 0
AreLastPrefixes words before = (k : ℕ) → k < length before → IsLastPrefix words k (slice_index_or before k None)
