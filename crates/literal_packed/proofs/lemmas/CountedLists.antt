-- The counts of a greedy list, match by match.
-- For `Searcher::find_all`.
use Rattle.std.proofs.Common.{◌≡◌, ℕ, List, [], ◌∷◌, ◌++◌, length, Some, None}
use Rattle.std.proofs.Common.{append_assoc, append-nil, false, sym, ap, ◌∙◌, subst}
use Rattle.literal_base.specs.declared.search.Span.{Span}
use Rattle.literal_base.specs.Counts.{Counts}
use Rattle.literal_base.specs.MatchValue.{MatchValue}
use Rattle.literal_base.specs.Leftmost.{IsLeftmostMatch}
use Rattle.literal_base.specs.Query.{Query}
use Rattle.literal_packed.specs.Pairs.{counts_after}
use Rattle.literal_base.proofs.lemmas.GreedyLists.{IsGreedyBefore, greedy_more, rest_is}
use Rattle.literal_packed.specs.Spending.{counts_after_all, counts_after_matches}

-- the matches so far, and the counts of their searches: whatever follows, it goes on from them
pub record FoundBefore (query : Query) (haystack : List ℕ) (old now : Counts) (done : List MatchValue)
    (at : ℕ) : Type 0 where
  pub greedy : IsGreedyBefore query false haystack done at
  pub all : (more : List MatchValue) → counts_after_all now query haystack at more
      ≡ counts_after_all old query haystack 0 (done ++ more)
  pub matches : (more : List MatchValue) → counts_after_matches now query haystack at more
      ≡ counts_after_matches old query haystack 0 (done ++ more)

-- one match more, of a search in the rest
pub found_more : (query : Query) (haystack : List ℕ) (old now new : Counts) (done : List MatchValue) (rest : Span)
    (found : MatchValue) → rest.end ≡ length haystack → FoundBefore query haystack old now done rest.start
    → IsLeftmostMatch query false haystack rest found → new ≡ counts_after now query haystack rest (Some found)
    → FoundBefore query haystack old new (done ++ found ∷ []) found.end
found_more query haystack old now new done rest found to_end before leftmost counted =
    let span_is = rest_is haystack rest to_end in
    let is = subst (λ (s : Span). new ≡ counts_after now query haystack s (Some found)) span_is counted in
    let in_turn = λ (more : List MatchValue). append_assoc done (found ∷ []) more in
    record {
      greedy = greedy_more query false haystack done rest.start found before.greedy
          (subst (λ (s : Span). IsLeftmostMatch query false haystack s found) span_is leftmost);
      all = λ more. ap (λ (t : Counts). counts_after_all t query haystack found.end more) is
          ∙ (before.all (found ∷ more) ∙ ap (counts_after_all old query haystack 0) (sym (in_turn more)));
      matches = λ more. ap (λ (t : Counts). counts_after_matches t query haystack found.end more) is
          ∙ (before.matches (found ∷ more) ∙ ap (counts_after_matches old query haystack 0) (sym (in_turn more)));
    }

-- the last search, which finds nothing
pub counts_all : (query : Query) (haystack : List ℕ) (old now new : Counts) (done : List MatchValue) (rest : Span)
    → rest.end ≡ length haystack → FoundBefore query haystack old now done rest.start
    → new ≡ counts_after now query haystack rest None → new ≡ counts_after_all old query haystack 0 done
counts_all query haystack old now new done rest to_end before counted =
    subst (λ (s : Span). new ≡ counts_after now query haystack s None) (rest_is haystack rest to_end) counted
    ∙ (before.all [] ∙ ap (counts_after_all old query haystack 0) (append-nil done))

-- the searches for the matches so far are counted
pub counts_found : (query : Query) (haystack : List ℕ) (old new : Counts) (done : List MatchValue) (at : ℕ)
    → FoundBefore query haystack old new done at → new ≡ counts_after_matches old query haystack 0 done
counts_found query haystack old new done at before =
    before.matches [] ∙ ap (counts_after_matches old query haystack 0) (append-nil done)
