-- Prefilters that search exactly, for one pattern or by a packed search.
use Rattle.std.specs.Prelude.{◌≡◌, ℕ, Bool, false, List, [], ◌∷◌, None, Some}
use Rattle.literal_base.specs.declared.packed.MatchKind.TheVariants.{LeftmostFirst}
use Rattle.literal_base.specs.declared.search.Span.{Span}
use Rattle.literal_base.specs.Counts.{Counts}
use Rattle.literal_base.specs.Leftmost.{IsLeftmost}
use Rattle.literal_base.specs.Query.{Query}
use Rattle.literal_packed.specs.Pairs.{counts_after}
use Rattle.literal_prefilters.specs.declared.prefilter.Candidate.{Candidate}
use Rattle.literal_prefilters.specs.declared.prefilter.Candidate.TheVariants as candidate
use Rattle.literal_prefilters.specs.Answers.{answered_match}

-- the query for one pattern. The match kind makes no difference
abbrev pub query_of_one : List ℕ → Query
query_of_one pattern = record { kind = LeftmostFirst; patterns = pattern ∷ [] }

-- the one pattern with case kept, for any match kind
pub record CoversPattern (pattern : List ℕ) (query : Query) (ignore_case : Bool) : Type 0 where
  pub patterns : query.patterns ≡ pattern ∷ []
  pub case_kept : ignore_case ≡ false

-- the patterns of the search, for its match kind, with case kept
pub record CoversQuery (searched query : Query) (ignore_case : Bool) : Type 0 where
  pub same : query ≡ searched
  pub case_kept : ignore_case ≡ false

-- the answer is the leftmost match, or None if nothing occurs, and never just a possible start
abbrev pub IsExact : Query → List ℕ → Span → Candidate → Type 0
IsExact query haystack span candidate.None = IsLeftmost query false haystack span None
IsExact query haystack span (candidate.Match found) = IsLeftmost query false haystack span (Some found)
IsExact query haystack span (candidate.PossibleStartOfMatch start) = ⊥

-- the answer is exact, and is counted as one search in the span
pub record IsExactStep (query : Query) (haystack : List ℕ) (span : Span) (answer : Candidate)
    (old new : Counts) : Type 0 where
  pub exact : IsExact query haystack span answer
  pub counted : new ≡ counts_after old query haystack span (answered_match answer)
