-- What a call writes of every occurrence.
use Rattle.std.specs.Prelude.{◌≡◌, ◌⊎◌, ℕ, ◌<◌, ◌≤◌, ◌-◌, ◌^◌, Bool, List, length, map, min, take, drop}
use Rattle.std.specs.Iterator.{Yields}
use Rattle.literal_base.specs.MatchValue.{MatchValue}
use Rattle.literal_base.specs.declared.search.Span.{Span}
use Rattle.literal_search.specs.Overlapping.{IsOverlappingCount, OverlappingValue}
use Rattle.literal_search.specs.OverlappingMatchesValue.{GivesOverlapping, IsToCome, OverlappingMatchesValue}
use Rattle.literal_c.specs.Answers.{match_of}
use Rattle.literal_c.specs.declared.LiteralMatch.{LiteralMatch}
use Rattle.literal_c.specs.declared.LiteralPage.{LiteralPage}

-- the search for every occurrence of the patterns
abbrev pub overlapping_for : List (List ℕ) → Bool → OverlappingValue
overlapping_for patterns ignore_case = record { patterns = patterns; ignore_case = ignore_case }

-- an iteration over the occurrences in a span that end after an offset, or at it and have at least a pattern number
abbrev pub occurrences_from : OverlappingValue → List ℕ → Span → ℕ → ℕ → OverlappingMatchesValue
occurrences_from search haystack span end pattern =
    record { search = search; haystack = haystack; span = span; end = end; pattern = pattern }

-- an iteration over every occurrence in a span
abbrev pub all_that_occurs : OverlappingValue → List ℕ → Span → OverlappingMatchesValue
all_that_occurs search haystack span = occurrences_from search haystack span span.start 0

-- an occurrence ends after an offset, or at it and has at least a pattern number
abbrev pub IsFrom : ℕ → ℕ → MatchValue → Type 0
IsFrom end pattern found = (end < found.end) ⊎ ((end ≡ found.end) × (pattern ≤ found.pattern))

-- a page of an iteration's answers: `written` occurrences are written, the last ends at `next`, and the rest of the
-- array is unchanged. Either none is to come after them, and it is the last page, or one is, and the array is full
pub record IsOverlappingPage (first : OverlappingMatchesValue) (old new : List LiteralMatch) (page : LiteralPage)
    : Type 0 where
  pub last : OverlappingMatchesValue
  pub len : length new ≡ length old
  pub fits : page.written ≤ length new
  pub matches : Yields GivesOverlapping first (map match_of (take page.written new)) last
  pub next : page.next ≡ last.end
  pub others : drop page.written new ≡ drop page.written old
  pub rest : ((page.is_last ≡ 1) × ((found : MatchValue) → ¬ IsToCome last found))
      ⊎ ((page.is_last ≡ 0) × (page.written ≡ length new) × ((found : MatchValue) × IsToCome last found))

-- the number of all occurrences in a span, or 2^64 - 1 if there are as many or more
abbrev pub IsCountForC : OverlappingValue → List ℕ → Span → ℕ → Type 0
IsCountForC search haystack span count =
    (all : ℕ) × IsOverlappingCount search.patterns search.ignore_case haystack span all × (count ≡ min all (2 ^ 64 - 1))
