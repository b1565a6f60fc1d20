-- What occurs in a haystack has a place in a match of the greedy list; and the test whether a pattern occurs.
-- For the laws `matches_meet_all_that_occurs` and `one_occurs_where_a_pattern_does`, and for searches above.
use Rattle.std.proofs.Common.{◌≡◌, ℕ, ◌+◌, ◌<◌, ◌≤◌, ◌&&◌, Bool, true, List, [], ◌∷◌, length, get_or, nat_le}
use Rattle.std.proofs.Common.{nat_lt, slice_range, sym, subst, ⊎_elim, ◌∙◌, arith}
use Rattle.std.proofs.lemmas.Bool.{and_from, and_parts, cases_lt, le-leb, leb-true, lt-ltb, or_left}
use Rattle.std.proofs.lemmas.Bool.{or_right}
use Rattle.std.proofs.lemmas.List.{get_or_default}
use Rattle.std.proofs.lemmas.List.Elements.{All-cons, All-nil}
use Rattle.std.proofs.lemmas.List.Folds.{Any-from_list_any, list_any_at}
use Rattle.std.proofs.lemmas.List.FromFn.{get_or-range_with_len, length-range_with_len}
use Rattle.std.proofs.lemmas.Slice.Eq.{bytes_eq-Decides}
use Rattle.std.specs.List.{All, list_any, range_with_len}
use Rattle.literal_base.specs.Greedy.{IsGreedy, lies_in_one}
use Rattle.literal_base.specs.MatchValue.{MatchValue}
use Rattle.literal_base.specs.Occurs.{NoneIsEmpty, Occurs, case_folded, one_occurs, pattern_at, rest_from, stands_at}
use Rattle.literal_base.specs.Occurs.{whole_of}
use Rattle.literal_base.specs.Query.{Query}

-- no match ends behind the haystack
pub ends_within : (query : Query) (ignore_case : Bool) (haystack : List ℕ) (from : ℕ) (all : List MatchValue)
    → IsGreedy query ignore_case haystack from all → All (λ (found : MatchValue). found.end ≤ length haystack) all
ends_within query ignore_case haystack from [] greedy = All-nil (λ (found : MatchValue). found.end ≤ length haystack)
ends_within query ignore_case haystack from (found ∷ more) greedy =
    All-cons (λ (it : MatchValue). it.end ≤ length haystack) found more
    (omega (arith, greedy.0.whole, greedy.0.occurs.before_end))
    (ends_within query ignore_case haystack found.end more greedy.1)

-- what occurs in the rest of a haystack, and is not empty, has a place in one of the matches from there on
pub meets : (query : Query) (ignore_case : Bool) (haystack : List ℕ) (from : ℕ) (all : List MatchValue) (i at : ℕ)
    → NoneIsEmpty query.patterns → IsGreedy query ignore_case haystack from all
    → Occurs query.patterns ignore_case haystack (rest_from haystack from) i at
    → (place : ℕ) × at ≤ place × place < at + length (pattern_at query.patterns i) × (lies_in_one all place ≡ true)
meets query ignore_case haystack from [] i at some greedy o = absurd (greedy i at o)
meets query ignore_case haystack from (found ∷ more) i at some greedy o =
    let long : 0 < length (pattern_at query.patterns i) = some i [] o.is_pattern in
    ⊎_elim (λ before. absurd (greedy.0.earliest i at before o))
    (λ after. ⊎_elim
    (λ inside. (
      at,
      omega arith,
      omega arith,
      or_left (nat_le found.start at && nat_lt at found.end)
          (lies_in_one more at) (and_from _ _ (le-leb found.start at after) (lt-ltb at found.end inside)),
    ))
    (λ past.
    let rest = meets query ignore_case haystack found.end more i at some greedy.1 (record {
      is_pattern = o.is_pattern;
      after_start = past;
      before_end = o.before_end;
      same = o.same;
    }) in (
      rest.0,
      rest.1,
      rest.2,
      or_right (nat_le found.start rest.0 && nat_lt rest.0 found.end)
          (lies_in_one more rest.0) rest.3,
    ))
    (cases_lt at found.end))
    (cases_lt at found.start)

module _ (patterns : List (List ℕ)) (ignore_case : Bool) (haystack : List ℕ) where
  abbrev here : ℕ → Bool
  here at = list_any (λ bytes. stands_at ignore_case bytes haystack at) patterns

  abbrev places : List ℕ
  places = range_with_len 0 (length haystack + 1)

  pub one_occurs_if : (i at : ℕ) → Occurs patterns ignore_case haystack (whole_of haystack) i at
      → one_occurs patterns ignore_case haystack ≡ true
  one_occurs_if i at o =
      let bytes = pattern_at patterns i in
      let there = case_folded ignore_case (slice_range haystack at (at + length bytes)) in
      let below : at < length haystack + 1 = omega (arith, o.before_end) in
      let is : get_or places at 0 ≡ at = get_or-range_with_len 0 (length haystack + 1) at 0 below ∙ omega arith in
      let stands : here at ≡ true =
      list_any_at (λ bytes. stands_at ignore_case bytes haystack at) patterns i [] o.is_pattern
      (and_from _ _ (le-leb (at + length bytes) (length haystack) o.before_end)
      ((bytes_eq-Decides there (case_folded ignore_case bytes)).1 o.same)) in
      list_any_at here places at 0 (omega (arith, length-range_with_len 0 (length haystack + 1)))
      (subst (λ place. here place ≡ true) (sym is) stands)

  pub occurs_if : one_occurs patterns ignore_case haystack ≡ true
      → (i : ℕ) × (at : ℕ) × Occurs patterns ignore_case haystack (whole_of haystack) i at
  occurs_if told =
      let place = Any-from_list_any here places told in
      let found = Any-from_list_any (λ bytes. stands_at ignore_case bytes haystack place.1) patterns place.4 in
      let is : found.1 ≡ pattern_at patterns found.0 =
      sym (get_or_default patterns found.0 [] found.1 found.2 ∙ found.3) in
      let stands : stands_at ignore_case (pattern_at patterns found.0) haystack place.1 ≡ true =
      subst (λ bytes. stands_at ignore_case bytes haystack place.1 ≡ true) is found.4 in
      let parts = and_parts _ _ stands in (
        found.0,
        place.1,
        record {
          is_pattern = found.2;
          after_start = omega arith;
          before_end = leb-true _ _ parts.0;
          same = (bytes_eq-Decides _ _).0 parts.1;
        },
      )
