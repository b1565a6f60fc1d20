-- The automaton of a search for every occurrence, for loops of callers. Contracts see it as its tables, and a state as
-- a number.
use Rattle.std.specs.Prelude.{◌≡◌, ℕ, ◌+◌, ◌<◌, Bool, List, length, slice_index}
use Rattle.std.specs.List.{All, AllPairs, Contains}
use Rattle.literal_base.specs.declared.search.Span.{Span}
use Rattle.literal_base.specs.Occurs.{Occurs, pattern_at, whole_of}
use Rattle.literal_rows.specs.Inside.Classes.{symbols_in}
use Rattle.literal_occurrences.specs.PreparedOverlapping.{Tables, texts_in}
use Rattle.literal_rows.specs.Table.{LeadsTo, Recognises}
use Rattle.literal_rows.specs.Words.{live_suffix}

-- the state after a text: that of the longest suffix of the text that is a prefix of a pattern, in classes of bytes
pub record IsStateAfter (t : Tables) (text : List ℕ) (state : ℕ) : Type 0 where
  pub bytes : (i : ℕ) → slice_index text i < 256
  pub leads : (recognises : Recognises (texts_in t) t.width t.rows)
      → LeadsTo (texts_in t) recognises.words t.width state
      (live_suffix (texts_in t) (symbols_in t.classes text))

-- the pattern of this number occurs at the end of the span
abbrev pub OccursAtEnd : List (List ℕ) → Bool → List ℕ → Span → ℕ → Type 0
OccursAtEnd patterns ignore_case haystack span i =
    (start : ℕ) × Occurs patterns ignore_case haystack span i start
    × (start + length (pattern_at patterns i) ≡ span.end)

-- these are the numbers of all patterns that occur at the end of the span, in ascending order
pub record AreAtEnd (patterns : List (List ℕ)) (ignore_case : Bool) (haystack : List ℕ) (span : Span) (all : List ℕ)
    : Type 0 where
  pub ascend : AllPairs (λ i other. i < other) all
  pub each : All (OccursAtEnd patterns ignore_case haystack span) all
  pub every : (i : ℕ) → OccursAtEnd patterns ignore_case haystack span i → Contains all i

-- a pattern of the automaton is a suffix of the text
abbrev pub EndsText : Tables → List ℕ → ℕ → Type 0
EndsText t text = OccursAtEnd t.patterns t.ignore_case text (whole_of text)
