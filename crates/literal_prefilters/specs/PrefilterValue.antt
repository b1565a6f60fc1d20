-- A prefilter as contracts see it.
use Rattle.std.specs.Prelude.{◌≡◌, ⊤, ℕ, List, Option, None, Some}
use Rattle.literal_base.specs.declared.search.Span.{Span}
use Rattle.literal_base.specs.Counts.{Counts}
use Rattle.literal_base.specs.Query.{Query}
use Rattle.literal_prefilters.specs.declared.prefilter.Candidate.{Candidate}
use Rattle.literal_prefilters.specs.Answers.{candidate_of}
use Rattle.literal_prefilters.specs.Exact.{query_of_one, CoversPattern, CoversQuery, IsExact, IsExactStep}
use Rattle.literal_prefilters.specs.Kinds.{CoversAll, IsStep}
use Rattle.literal_prefilters.specs.Sound.{Coverage}
use Rattle.literal_prefilters.specs.Table.{reach_of, proposed_place}

-- a `Prefilter` as contracts see it: one of three kinds, with its table, its one pattern, or its match kind and
-- patterns
pub data PrefilterValue : Type 0 where
  by_table : List (Option ℕ) → PrefilterValue
  by_memmem : List ℕ → PrefilterValue
  by_packed : Query → PrefilterValue

-- the patterns that a prefilter covers
abbrev pub CoveredBy : PrefilterValue → Coverage
CoveredBy (by_table table) = CoversAll table
CoveredBy (by_memmem pattern) = CoversPattern pattern
CoveredBy (by_packed query) = CoversQuery query

-- how many bytes a prefilter may read after an offset that it proposes; 0 if it is exact
abbrev pub prefilter_reach : PrefilterValue → ℕ
prefilter_reach (by_table table) = reach_of table
prefilter_reach (by_memmem pattern) = 0
prefilter_reach (by_packed query) = 0

-- the answer of a prefilter: the offset that its table proposes as a possible start, or the leftmost match
abbrev pub IsAnswer : PrefilterValue → List ℕ → Span → Candidate → Type 0
IsAnswer (by_table table) haystack span answer = answer ≡ candidate_of (proposed_place table haystack span)
IsAnswer (by_memmem pattern) haystack span answer = IsExact (query_of_one pattern) haystack span answer
IsAnswer (by_packed query) haystack span answer = IsExact query haystack span answer

-- the answer of a prefilter and its counts: those of a scan by its table, or of one search in the span
abbrev pub IsCountedAnswer : PrefilterValue → List ℕ → Span → Candidate → Counts → Counts → Type 0
IsCountedAnswer (by_table table) haystack span answer old new = IsStep table haystack span answer old new
IsCountedAnswer (by_memmem pattern) haystack span answer old new =
    IsExactStep (query_of_one pattern) haystack span answer old new
IsCountedAnswer (by_packed query) haystack span answer old new = IsExactStep query haystack span answer old new

-- the table of a prefilter, if it has one
abbrev pub prefilter_table : PrefilterValue → Option (List (Option ℕ))
prefilter_table (by_table table) = Some table
prefilter_table (by_memmem pattern) = None
prefilter_table (by_packed query) = None

-- the prefilter holds patterns, so it allocates
abbrev pub TakesMemory : PrefilterValue → Type 0
TakesMemory (by_table table) = ⊥
TakesMemory (by_memmem pattern) = ⊤
TakesMemory (by_packed query) = ⊤

-- the query of a prefilter that searches exactly
abbrev pub exact_query : PrefilterValue → Option Query
exact_query (by_table table) = None
exact_query (by_memmem pattern) = Some (query_of_one pattern)
exact_query (by_packed query) = Some query
