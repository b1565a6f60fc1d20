-- A list of matches so far: that it is greedy, and what its searches count, match by match.
-- For `ConfirmingSearch::find_all`.
use Rattle.std.proofs.Common.{◌≡◌, ℕ, ◌+◌, ◌-◌, ◌*◌, ◌<◌, ◌≤◌, List, [], ◌∷◌, ◌++◌, length, Option, Some, None}
use Rattle.std.proofs.Common.{Result, Ok, Err, IfSome, OnErr, append_assoc, append-nil, sym, ap, ◌∙◌, subst, arith}
use Rattle.std.proofs.lemmas.List.{map_push}
use Rattle.literal_base.specs.Bytes.{AreBytes}
use Rattle.literal_base.specs.Counts.{Counts}
use Rattle.literal_base.specs.declared.search.Span.{Span}
use Rattle.literal_base.specs.Greedy.{RefusesList}
use Rattle.literal_base.specs.Leftmost.{IsLeftmostMatch}
use Rattle.literal_base.specs.MatchValue.{MatchValue}
use Rattle.literal_base.specs.Occurs.{NoneIsEmpty, NothingOccurs, pattern_at}
use Rattle.literal_base.proofs.lemmas.GreedyLists.{IsGreedyBefore, greedy_more, refuses_last, rest_is}
use Rattle.literal_prefilters.specs.Confirming.{SpendsConfirming, answers_of, counts_after_answers}
use Rattle.literal_prefilters.specs.Confirming.{counts_after_confirming}
use Rattle.literal_prefilters.specs.ConfirmingValue.{ConfirmingValue}
use Rattle.literal_prefilters.specs.PrefilterValue.{CoveredBy, prefilter_table}
use Rattle.literal_prefilters.proofs.lemmas.Spends.{SpendsTo, spends_end, spends_match, spends_whole}

module _ (search : ConfirmingValue) (haystack : List ℕ) (old : Counts) where
  abbrev counts_after : Counts → ℕ → List (Option MatchValue) → Counts
  counts_after from at answers = counts_after_answers from search.prefilter search.query haystack at answers

  -- the matches up to a place are the first of the greedy list, and whatever follows goes on from their counts
  pub record SoFar (now : Counts) (done : List MatchValue) (at : ℕ) : Type 0 where
    pub within : at ≤ length haystack
    pub greedy : IsGreedyBefore search.query search.ignore_case haystack done at
    pub counted : (more : List (Option MatchValue)) → counts_after now at more
        ≡ counts_after old 0 (answers_of done ++ more)
    pub spends : SpendsTo search.prefilter search.query.patterns haystack at old now

  -- a search of the rest counts so, and by a table it compares at most so often
  abbrev Counted : Counts → Counts → Span → Option MatchValue → Type 0
  Counted now new rest answer =
      new ≡ counts_after_confirming now search.prefilter search.query haystack rest answer

  abbrev Compared : Counts → Counts → Type 0
  Compared now new =
      IfSome (prefilter_table search.prefilter)
      (λ _. new.compared ≤ now.compared + (new.tried - now.tried) * length search.query.patterns)

  module _ (bytes : AreBytes haystack) (covered : CoveredBy search.prefilter search.query search.ignore_case)
      (now new : Counts) (done : List MatchValue) (rest : Span) (to_end : rest.end ≡ length haystack)
      (so_far : SoFar now done rest.start) (compared : Compared now new) where
    -- one match more
    pub one_more : NoneIsEmpty search.query.patterns → (found : MatchValue)
        → IsLeftmostMatch search.query search.ignore_case haystack rest found → Counted now new rest (Some found)
        → SoFar new (done ++ found ∷ []) found.end
    one_more not_empty found leftmost counted =
        let some : 0 < length (pattern_at search.query.patterns found.pattern) =
        not_empty found.pattern [] leftmost.occurs.is_pattern in
        let rest_here = rest_is haystack rest to_end in
        record {
          within = omega (arith, leftmost.whole, leftmost.occurs.before_end);
          greedy = greedy_more search.query search.ignore_case haystack done rest.start found so_far.greedy
              (subst (λ (s : Span). IsLeftmostMatch search.query search.ignore_case haystack s found) rest_here
              leftmost);
          counted = λ more.
              ap (λ (t : Counts). counts_after t found.end more)
              (subst (λ (s : Span). Counted now new s (Some found)) rest_here counted)
              ∙ (so_far.counted (Some found ∷ more) ∙ ap (counts_after old 0)
              (sym (ap (λ answers. answers ++ more) (map_push Some done found)
              ∙ append_assoc (answers_of done) (Some found ∷ []) more)));
          spends = spends_match search.query search.ignore_case haystack bytes rest to_end so_far.within old now new
              search.prefilter covered found (omega (arith, leftmost.whole)) so_far.spends leftmost counted compared;
        }

    -- no match more
    pub counted_all : Counted now new rest None → new ≡ counts_after old 0 (answers_of done ++ None ∷ [])
    counted_all counted =
        subst (λ (s : Span). Counted now new s None) (rest_is haystack rest to_end) counted
        ∙ so_far.counted (None ∷ [])

    pub spent_all : NothingOccurs search.query.patterns search.ignore_case haystack rest → Counted now new rest None
        → SpendsConfirming search.prefilter search.query.patterns haystack old new
    spent_all nothing counted =
        spends_whole search.prefilter search.query.patterns haystack (length haystack) old new (omega arith)
        (spends_end search.query search.ignore_case haystack bytes rest to_end so_far.within old now new
        search.prefilter covered so_far.spends nothing counted compared)

  -- where there is no room for the last match so far
  pub refused : {A E : Type 0} (answer : Result A E) (new : Counts) (done : List MatchValue) (last : MatchValue)
      (at : ℕ) → NoneIsEmpty search.query.patterns → SoFar new (done ++ last ∷ []) at
      → OnErr answer (RefusesList search.query search.ignore_case haystack
      (λ found. new ≡ counts_after old 0 (answers_of found)))
  refused (Ok all) new done last at not_empty so_far = tt
  refused (Err error) new done last at not_empty so_far =
      refuses_last search.query search.ignore_case haystack (λ found. new ≡ counts_after old 0 (answers_of found)) done
      last at not_empty so_far.greedy
      (so_far.counted [] ∙ ap (counts_after old 0) (append-nil (answers_of (done ++ last ∷ []))))

  pub spent_before : (new : Counts) (done : List MatchValue) (at : ℕ) → SoFar new done at
      → SpendsConfirming search.prefilter search.query.patterns haystack old new
  spent_before new done at so_far =
      spends_whole search.prefilter search.query.patterns haystack at old new so_far.within so_far.spends
