-- Matches that are replaced, one after another.
-- For `Search::replace_all`, and the law on it.
use Rattle.std.proofs.lemmas.Grind.{common_steps}
use Rattle.std.proofs.Common.{◌≡◌, ℕ, ◌+◌, ◌-◌, ◌<◌, ◌≤◌, Bool, false, List, [], ◌∷◌, ◌++◌, None, Some, drop, length}
use Rattle.std.proofs.Common.{◌∙◌, ap, append-nil, append_assoc, arith, length-append, map, refl, slice_range}
use Rattle.std.proofs.Common.{subst, sum_by}
use Rattle.std.proofs.lemmas.List.{length-map, take_rest}
use Rattle.std.proofs.lemmas.List.Folds.{drop_split}
use Rattle.std.specs.Borrow.{Bor}
use Rattle.std.specs.Iterator.{Yields}
use Rattle.std.specs.List.{slice_index_or}
use Rattle.literal_base.specs.Greedy.{IsGreedy, IsGreedyIn}
use Rattle.literal_base.specs.MatchValue.{MatchValue}
use Rattle.literal_base.specs.Occurs.{NoneIsEmpty, between, pattern_at}
use Rattle.literal_base.specs.Query.{Query}
use Rattle.literal_base.proofs.lemmas.Exists.{greedy_exists_lem}
use Rattle.literal_search.proofs.lemmas.Callers.{greedy_after, matches_of}
use Rattle.literal_rows.proofs.lemmas.Arrays.{length_part}
use Rattle.literal_search.specs.MatchesValue.{GivesMatch, MatchesValue}
use Rattle.literal_search.specs.Replaced.{IsReplaced, RefusesToReplace, replaced}
use Rattle.literal_search.specs.SearchValue.{SearchValue}
use Rattle.literal_search.specs.declared.replace.ReplaceError.TheVariants.{OutOfMemory}

-- the replacement of a number
pub replacement_at : (replacements : List (Bor (List ℕ))) (i number : ℕ) → i ≡ number
    → (slice_index_or replacements i (record { ref_ptr = (0, 0); now = [] })).now
    ≡ pattern_at (map (λ (r : Bor (List ℕ)). r.now) replacements) number
replacement_at replacements i number same = grind (arith, common_steps)

-- a text is written up to where an iteration stands: whatever matches are still to come, it goes on as it has to
pub record IsWrittenTo (search : SearchValue) (haystack : List ℕ) (replacements : List (Bor (List ℕ)))
    (it : MatchesValue) (at : ℕ) (text : List ℕ) (done : List MatchValue) : Type 0 where
  pub search_is : it.search ≡ search
  pub haystack_is : it.haystack ≡ haystack
  pub at_is : it.at ≡ at
  pub to_end : it.span.end ≡ length it.haystack
  pub within : at ≤ length haystack
  pub goes_on : (more : List MatchValue) → text ++ replaced haystack (map (λ r. r.now) replacements) at more
      ≡ replaced haystack (map (λ r. r.now) replacements) 0 (done ++ more)

module _ {search : SearchValue} {haystack : List ℕ} {replacements : List (Bor (List ℕ))} {it : MatchesValue} {at : ℕ}
    {text : List ℕ} {done : List MatchValue} (so_far : IsWrittenTo search haystack replacements it at text done)
  where
    abbrev given : List (List ℕ)
    given = map (λ (r : Bor (List ℕ)). r.now) replacements

    -- so it does behind one match more
    pub written_on : {o : MatchesValue} {found : MatchValue} → GivesMatch it (Some found) o
        → (now all between replacement : List ℕ) (end : ℕ) → now ≡ text ++ between → all ≡ now ++ replacement
        → between ≡ slice_range haystack at found.start → replacement ≡ pattern_at given found.pattern
        → end ≡ found.end → IsWrittenTo search haystack replacements o end all (done ++ found ∷ [])
    written_on {o} {found} step now all between replacement end now_is all_is between_is replacement_is end_is =
        grind (arith, append_assoc, slice_range)

    module _ {first : MatchesValue} (count : length replacements ≡ length search.query.patterns)
        (start : first ≡ matches_of search haystack) (run : Yields GivesMatch first done it)
      where
        replaced_by : (more : List MatchValue)
            → IsGreedyIn it.search.query it.search.ignore_case it.haystack (between it.at it.span.end) more
            → IsReplaced search haystack given (replaced haystack given 0 (done ++ more))
        replaced_by more greedy = grind (arith, length-map, greedy_after)

        -- behind the last match it is the whole
        pub all_written : {o : MatchesValue} → GivesMatch it None o → (answer : List ℕ)
            → answer ≡ text ++ slice_range haystack at (length haystack)
            → (is : IsReplaced search haystack given answer) × (is.matches ≡ done)
        all_written step answer answer_is = (
          record {
            one_for_each = (replaced_by [] step.leftmost).one_for_each;
            matches = done;
            are_matches = subst (λ (m : MatchesValue). IsGreedyIn m.search.query m.search.ignore_case m.haystack
                (between m.at m.span.end) done) start
                (subst (IsGreedyIn first.search.query first.search.ignore_case first.haystack
                (between first.at first.span.end)) (append-nil done)
                (greedy_after first done [] it run step.leftmost));
            is_replaced = answer_is ∙ (so_far.goes_on [] ∙ ap (replaced haystack given 0) (append-nil done));
          },
          refl,
        )

        -- memory was refused for some bytes of it, which has more matches to come
        refused : (more : List MatchValue)
            → IsGreedyIn it.search.query it.search.ignore_case it.haystack (between it.at it.span.end) more
            → 0 < length (text ++ replaced haystack given at more) → RefusesToReplace search haystack given OutOfMemory
        refused more greedy some = grind (arith, replaced_by)

        -- as those behind the last match
        pub refused_behind : {o : MatchesValue} → GivesMatch it None o
            → 0 < length text + length (slice_range haystack at (length haystack))
            → RefusesToReplace search haystack given OutOfMemory
        refused_behind step some =
            refused [] step.leftmost (omega (arith, length-append text (replaced haystack given at []), some))

        -- or those before a match, or its replacement
        pub refused_at : {o : MatchesValue} {found : MatchValue} → NoneIsEmpty search.query.patterns
            → GivesMatch it (Some found) o
            → 0 < length text + length (slice_range haystack at found.start)
            + length (pattern_at given found.pattern) → RefusesToReplace search haystack given OutOfMemory
        refused_at {o} {found} not_empty step some =
            let rest = greedy_exists_lem it.search.query it.search.ignore_case it.haystack found.end
            (grind arith) in
            let behind = replaced haystack given found.end rest.0 in
            let replacement = pattern_at given found.pattern in
            refused (found ∷ rest.0) (
              step.leftmost,
              grind arith,
            )
            (grind (arith, length-append, slice_range))

-- replaced by their own patterns, from an offset on, matches stay as they are
pub same_behind : (query : Query) (haystack : List ℕ) (at : ℕ) (all : List MatchValue)
    → IsGreedy query false haystack at all → replaced haystack query.patterns at all ≡ drop at haystack
same_behind query haystack at [] nothing = take_rest haystack at
same_behind query haystack at (found ∷ more) greedy =
    grind (arith, drop_split, same_behind query haystack found.end more greedy.1)

-- how long a text is behind an offset, once matches are replaced
pub length_behind : (query : Query) (ignore_case : Bool) (haystack : List ℕ) (replacements : List (List ℕ)) (at : ℕ)
    (all : List MatchValue) → at ≤ length haystack → IsGreedy query ignore_case haystack at all
    → length (replaced haystack replacements at all) + sum_by (λ found. found.end - found.start) all + at
    ≡ length haystack + sum_by (λ found. length (pattern_at replacements found.pattern)) all
length_behind query ignore_case haystack replacements at [] within nothing = grind (arith, length_part)
length_behind query ignore_case haystack replacements at (found ∷ more) within greedy =
    let occurs = greedy.0.occurs in
    let ends : found.end ≤ length haystack = omega (arith, greedy.0.whole, occurs.before_end) in
    grind (arith, common_steps, length_behind query ignore_case haystack replacements found.end more ends greedy.1)
