-- What a prefilter guarantees about its answers.
use Rattle.std.specs.Prelude.{◌≡◌, ℕ, ◌+◌, ◌-◌, ◌<◌, ◌≤◌, Bool, List}
use Rattle.literal_base.specs.declared.search.Span.{Span}
use Rattle.literal_base.specs.Counts.{Counts}
use Rattle.literal_base.specs.Leftmost.{IsLeftmostMatch}
use Rattle.literal_base.specs.Query.{Query}
use Rattle.literal_base.specs.Occurs.{Occurs, NothingOccurs}
use Rattle.literal_prefilters.specs.declared.prefilter.Candidate.{Candidate}
use Rattle.literal_prefilters.specs.declared.prefilter.Candidate.TheVariants.{None, Match, PossibleStartOfMatch}

-- the offset is in the span, and no occurrence in the span begins before it
pub record IsPossibleStart (patterns : List (List ℕ)) (ignore_case : Bool) (haystack : List ℕ) (span : Span)
    (place : ℕ) : Type 0 where
  pub after_start : span.start ≤ place
  pub before_end : place < span.end
  pub none_before : (i at : ℕ) → Occurs patterns ignore_case haystack span i at → place ≤ at

-- the answer misses no occurrence: it is None only if nothing occurs in the span, a match only if it is the leftmost
-- one, and a possible start only if no occurrence begins before it
abbrev pub Sound : Query → Bool → List ℕ → Span → Candidate → Type 0
Sound query ignore_case haystack span None =
    NothingOccurs query.patterns ignore_case haystack span
Sound query ignore_case haystack span (Match found) =
    IsLeftmostMatch query ignore_case haystack span found
Sound query ignore_case haystack span (PossibleStartOfMatch place) =
    IsPossibleStart query.patterns ignore_case haystack span place

-- a coverage: patterns with a match kind, with ASCII case ignored or kept
abbrev pub Coverage : Type 1
Coverage = Query → Bool → Type 0

-- the answer is sound for each query that is covered
pub record PassesOverNone (covers : Coverage) (haystack : List ℕ) (span : Span) (answer : Candidate) : Type 0 where
  pub each : (query : Query) (ignore_case : Bool) → covers query ignore_case
      → Sound query ignore_case haystack span answer

-- the most bytes that an answer scans: with a possible start s, s + reach + 1 - the span's start; otherwise the span's
-- length
abbrev pub scans_at_most : ℕ → Span → Candidate → ℕ
scans_at_most reach span None = span.end - span.start
scans_at_most reach span (Match found) = span.end - span.start
scans_at_most reach span (PossibleStartOfMatch place) = place + reach + 1 - span.start

-- the most that an answer adds to the counts: no offsets tried, and no more scanned bytes than its reach allows
pub record KeepsReach (reach : ℕ) (span : Span) (answer : Candidate) (old new : Counts) : Type 0 where
  pub tried : new.tried ≡ old.tried
  pub scanned : new.scanned ≤ old.scanned + scans_at_most reach span answer
