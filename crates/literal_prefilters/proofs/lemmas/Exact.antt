-- The answers of searches as those of prefilters, and what they cover.
-- For the exact kinds of prefilter and for `Prefilter::find_in`.
use Rattle.std.proofs.Common.{◌≡◌, ℕ, false, List, Option, Some, None, ap, ◌∙◌, subst}
use Rattle.literal_base.specs.declared.search.Span.{Span}
use Rattle.literal_base.specs.Counts.{Counts}
use Rattle.literal_base.specs.Leftmost.{IsLeftmost}
use Rattle.literal_base.specs.MatchValue.{MatchValue}
use Rattle.literal_base.specs.Query.{Query}
use Rattle.literal_packed.specs.Pairs.{counts_after}
use Rattle.literal_prefilters.specs.declared.prefilter.Candidate.{Candidate}
use Rattle.literal_prefilters.specs.declared.prefilter.Candidate.TheVariants as candidate
use Rattle.literal_prefilters.specs.Exact.{IsExactStep}
use Rattle.literal_prefilters.specs.PrefilterValue.{PrefilterValue, by_table, by_memmem, by_packed}
use Rattle.literal_prefilters.specs.PrefilterValue.{IsAnswer, IsCountedAnswer}

-- a match that a search found is answered exactly
pub found_step : (query : Query) (haystack : List ℕ) (span : Span) (answer : Option MatchValue) (found : MatchValue)
    (old new : Counts) → answer ≡ Some found → IsLeftmost query false haystack span answer
    → new ≡ counts_after old query haystack span answer
    → IsExactStep query haystack span (candidate.Match found) old new
found_step query haystack span answer found old new is leftmost counted = record {
  exact = subst (λ (o : Option MatchValue). IsLeftmost query false haystack span o) is leftmost;
  counted = counted ∙ ap (λ o. counts_after old query haystack span o) is;
}

-- and so is that there is none
pub none_step : (query : Query) (haystack : List ℕ) (span : Span) (answer : Option MatchValue) (old new : Counts)
    → answer ≡ None → IsLeftmost query false haystack span answer
    → new ≡ counts_after old query haystack span answer
    → IsExactStep query haystack span candidate.None old new
none_step query haystack span answer old new is leftmost counted = record {
  exact = subst (λ (o : Option MatchValue). IsLeftmost query false haystack span o) is leftmost;
  counted = counted ∙ ap (λ o. counts_after old query haystack span o) is;
}

-- what is answered and counted is what is answered
pub answered : (pre : PrefilterValue) (haystack : List ℕ) (span : Span) (answer : Candidate) (old new : Counts)
    → IsCountedAnswer pre haystack span answer old new → IsAnswer pre haystack span answer
answered (by_table table) haystack span answer old new step = step.step
answered (by_memmem pattern) haystack span answer old new step = step.exact
answered (by_packed query) haystack span answer old new step = step.exact
