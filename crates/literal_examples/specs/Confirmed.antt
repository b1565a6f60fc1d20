-- Candidates that are confirmed: matches at the starts of lines, and before brackets.
use Rattle.std.specs.Prelude.{◌≡◌, ◌==◌, ◌||◌, ◌+◌, ◌-◌, ◌<◌, ℕ, Bool, List, Some, false, get_or, length}
use Rattle.std.specs.Prelude.{slice_index, true}
use Rattle.literal_base.specs.MatchValue.{MatchValue}
use Rattle.literal_base.specs.Occurs.{Occurs, pattern_at, rest_from, whole_of}
use Rattle.literal_search.specs.At.{IsMatchAt, OccursFirst}
use Rattle.literal_search.specs.SearchValue.{SearchValue}

-- whether a line begins at an offset
abbrev pub begins_line : List ℕ → ℕ → Bool
begins_line text at = at == 0 || slice_index text (at - 1) == 10

-- the match is the one at the start of a line, and no line before it begins with a pattern
pub record BeginsLine (search : SearchValue) (text : List ℕ) (found : MatchValue) : Type 0 where
  pub match : IsMatchAt search.query search.ignore_case text found.start (Some found)
  pub line : begins_line text found.start ≡ true
  pub first : (i at : ℕ) → at < found.start
      → Occurs search.query.patterns search.ignore_case text (whole_of text) i at → begins_line text at ≡ false

-- an opening bracket comes after a pattern that is at an offset
abbrev pub IsCalled : SearchValue → List ℕ → ℕ → ℕ → Type 0
IsCalled search text at i = get_or text (at + length (pattern_at search.query.patterns i)) 0 ≡ 40

-- the match is the one of the first pattern in the list that occurs at an offset with an opening bracket after it
pub record IsFirstCall (search : SearchValue) (text : List ℕ) (at : ℕ) (found : MatchValue) : Type 0 where
  pub occurs : OccursFirst search.query.patterns search.ignore_case text (rest_from text at) found.pattern
  pub start : found.start ≡ at
  pub whole : found.end ≡ at + length (pattern_at search.query.patterns found.pattern)
  pub called : IsCalled search text at found.pattern
  pub first : (i : ℕ) → i < found.pattern
      → OccursFirst search.query.patterns search.ignore_case text (rest_from text at) i → ¬ IsCalled search text at i
