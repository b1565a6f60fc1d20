-- The states of a prepared search for every occurrence, for loops of callers.
use Rattle.std.specs.Prelude.{◌≡◌, ◌⊎◌, ◌++◌, ◌%◌, ◌^◌, ◌<◌, ◌≤◌, ℕ, true, false, List, length, slice_range}
use Rattle.literal_base.specs.declared.search.Span.{Span}
use Rattle.literal_occurrences.specs.Automaton.{EndsText, IsStateAfter}
use Rattle.literal_leftmost.specs.Prepared.{rows_in}
use Rattle.literal_occurrences.specs.PreparedOverlapping.{Tables}
use Rattle.literal_occurrences.specs.declared.prepared_states.Walked.{Walked}

-- the number of a state, without its highest bit, is an index in the rows of the array
abbrev pub HasRow : List ℕ → ℕ → Type 0
HasRow numbers state = state % 2 ^ 31 < length (rows_in numbers)

-- a pattern is a suffix of a text that is followed by the bytes of a haystack between two offsets
abbrev pub EndsAfter : Tables → List ℕ → List ℕ → ℕ → ℕ → Type 0
EndsAfter t text haystack start end = (i : ℕ) × EndsText t (text ++ slice_range haystack start end) i

-- a walk has stopped in the span: after at least one byte where a pattern ends, or else at its end
abbrev pub StopsIn : Span → Walked → Type 0
StopsIn span walked = (walked.at ≤ span.end) × (((walked.is_match ≡ true) × (span.start < walked.at))
    ⊎ ((walked.is_match ≡ false) × (walked.at ≡ span.end)))

-- the bytes of a span have followed a text: up to the first offset at which a pattern ends, or all of them if none does
pub record IsWalked (t : Tables) (text haystack : List ℕ) (span : Span) (walked : Walked) : Type 0 where
  pub inside : walked.at ≤ span.end
  pub state : IsStateAfter t (text ++ slice_range haystack span.start walked.at) walked.state
  pub none : (at : ℕ) → span.start < at → at < walked.at → ¬ EndsAfter t text haystack span.start at
  pub stops : ((walked.is_match ≡ true) × (span.start < walked.at) × EndsAfter t text haystack span.start walked.at)
      ⊎ ((walked.is_match ≡ false) × (walked.at ≡ span.end)
      × (span.start < span.end → ¬ EndsAfter t text haystack span.start span.end))
