-- The match at one offset.
use Rattle.std.specs.Prelude.{◌≡◌, ℕ, ◌+◌, ◌-◌, ◌<◌, ◌≤◌, Bool, List, MatchOption, Option, length}
use Rattle.literal_base.specs.Counts.{Counts}
use Rattle.literal_base.specs.Leftmost.{IsLeftmostMatch}
use Rattle.literal_base.specs.MatchValue.{MatchValue}
use Rattle.literal_base.specs.Occurs.{Occurs, pattern_at, rest_from}
use Rattle.literal_base.specs.Query.{Query}
use Rattle.literal_base.specs.declared.search.Span.{Span}
use Rattle.literal_leftmost.specs.SearchValue.{longest_of}

-- the answer is the match at the start of the span: of the patterns that occur there, whole in the span, the one that
-- the tie rule prefers. It is None exactly if none occurs there
abbrev pub IsMatchIn : Query → Bool → List ℕ → Span → Option MatchValue → Type 0
IsMatchIn query ignore_case haystack span answer = MatchOption answer
    ((i : ℕ) → ¬ Occurs query.patterns ignore_case haystack span i span.start)
    (λ found. (found.start ≡ span.start) × IsLeftmostMatch query ignore_case haystack span found)

-- `IsMatchIn` for the span from an offset to the end of the haystack
abbrev pub IsMatchAt : Query → Bool → List ℕ → ℕ → Option MatchValue → Type 0
IsMatchAt query ignore_case haystack at = IsMatchIn query ignore_case haystack (rest_from haystack at)

-- the bytes that the search for this match scans: at most the length of the longest pattern and of the span, at least
-- that of the match
pub record ScansAt (patterns : List (List ℕ)) (span : Span) (answer : Option MatchValue) (old new : Counts) : Type 0
  where
    pub others : new ≡ record old { scanned = new.scanned }
    pub most : new.scanned ≤ old.scanned + longest_of patterns
    pub within : new.scanned ≤ old.scanned + (span.end - span.start)
    pub least : MatchOption answer (old.scanned ≤ new.scanned)
        (λ found. old.scanned + found.end ≤ new.scanned + span.start)

-- a pattern occurs at the start of the span, whole in it, and no earlier pattern of the same length does. So it is the
-- first of equal patterns
pub record OccursFirst (patterns : List (List ℕ)) (ignore_case : Bool) (haystack : List ℕ) (span : Span) (i : ℕ)
    : Type 0 where
  pub occurs : Occurs patterns ignore_case haystack span i span.start
  pub no_equal : (j : ℕ) → j < i → length (pattern_at patterns j) ≡ length (pattern_at patterns i)
      → ¬ Occurs patterns ignore_case haystack span j span.start

-- the match is that of the first pattern in the list, from number `from` on, for which `OccursFirst` holds
pub record IsFirstFrom (patterns : List (List ℕ)) (ignore_case : Bool) (haystack : List ℕ) (span : Span) (from : ℕ)
    (found : MatchValue) : Type 0 where
  pub occurs : OccursFirst patterns ignore_case haystack span found.pattern
  pub start : found.start ≡ span.start
  pub whole : found.end ≡ found.start + length (pattern_at patterns found.pattern)
  pub after : from ≤ found.pattern
  pub first : (i : ℕ) → from ≤ i → i < found.pattern → ¬ OccursFirst patterns ignore_case haystack span i

-- the answer is None exactly if there is no such pattern, and otherwise the match of the first one
abbrev pub IsNextInList : List (List ℕ) → Bool → List ℕ → Span → ℕ → Option MatchValue → Type 0
IsNextInList patterns ignore_case haystack span from answer =
    MatchOption answer ((i : ℕ) → from ≤ i → ¬ OccursFirst patterns ignore_case haystack span i)
    (IsFirstFrom patterns ignore_case haystack span from)
