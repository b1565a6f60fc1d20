-- A greedy list, match by match, and how its matches lie.
-- For the lists of all matches, the laws on them, and iterations over matches.
use Rattle.std.proofs.Common.{◌≡◌, ℕ, ◌+◌, ◌-◌, ◌<◌, ◌≤◌, Bool, List, [], ◌∷◌, ◌++◌, length, append_assoc, append-nil}
use Rattle.std.proofs.Common.{inl, inr, sym, ap, subst, arith, drop, take}
use Rattle.std.specs.List.{slice_range}
use Rattle.std.proofs.lemmas.Bool.{cases_lt}
use Rattle.std.proofs.lemmas.List.{get_or_default, length_push, nil_from_length}
use Rattle.literal_base.specs.declared.search.Span.{Span}
use Rattle.literal_base.specs.Apart.{LieApart}
use Rattle.literal_base.specs.Greedy.{IsGreedy, RefusesList}
use Rattle.literal_base.specs.Leftmost.{IsLeftmostMatch}
use Rattle.literal_base.specs.MatchValue.{MatchValue}
use Rattle.literal_base.specs.Occurs.{NoneIsEmpty, NothingOccurs, between, case_folded, pattern_at, rest_from, whole_of}
use Rattle.literal_base.specs.Query.{Query}
use Rattle.literal_base.proofs.lemmas.Exists.{greedy_exists_lem}

-- the matches so far, before a place: whatever is greedy from there on goes on from them
pub record IsGreedyBefore (query : Query) (ignore_case : Bool) (haystack : List ℕ) (done : List MatchValue)
    (at : ℕ) : Type 0 where
  pub goes_on : (more : List MatchValue) → IsGreedy query ignore_case haystack at more
      → IsGreedy query ignore_case haystack 0 (done ++ more)

pub greedy_more : (query : Query) (ignore_case : Bool) (haystack : List ℕ) (done : List MatchValue) (at : ℕ)
    (found : MatchValue) → IsGreedyBefore query ignore_case haystack done at
    → IsLeftmostMatch query ignore_case haystack (rest_from haystack at) found
    → IsGreedyBefore query ignore_case haystack (done ++ found ∷ []) found.end
greedy_more query ignore_case haystack done at found before leftmost = record {
  goes_on = λ more greedy. subst (IsGreedy query ignore_case haystack 0) (sym (append_assoc done (found ∷ []) more))
      (before.goes_on (found ∷ more) (leftmost, greedy));
}

pub greedy_all : (query : Query) (ignore_case : Bool) (haystack : List ℕ) (done : List MatchValue) (at : ℕ)
    → IsGreedyBefore query ignore_case haystack done at
    → NothingOccurs query.patterns ignore_case haystack (rest_from haystack at)
    → IsGreedy query ignore_case haystack 0 done
greedy_all query ignore_case haystack done at before nothing =
    subst (IsGreedy query ignore_case haystack 0) (append-nil done) (before.goes_on [] nothing)

-- there is no room for the last match so far
pub refuses_last : (query : Query) (ignore_case : Bool) (haystack : List ℕ) (Counted : List MatchValue → Type 0)
    (done : List MatchValue) (last : MatchValue) (at : ℕ) → NoneIsEmpty query.patterns
    → IsGreedyBefore query ignore_case haystack (done ++ last ∷ []) at → Counted (done ++ last ∷ [])
    → RefusesList query ignore_case haystack Counted
refuses_last query ignore_case haystack Counted done last at not_empty before counted =
    let rest = greedy_exists_lem query ignore_case haystack at not_empty in
    record {
      found = done ++ last ∷ [];
      more = rest.0;
      some = omega (arith, length_push done last);
      are_first = before.goes_on rest.0 rest.1;
      counted = counted;
    }

-- where nothing occurs in a rest, no pattern is empty: an empty one would occur at its beginning
pub none_empty : (patterns : List (List ℕ)) (ignore_case : Bool) (h : List ℕ) (at : ℕ) → at ≤ length h
    → NothingOccurs patterns ignore_case h (rest_from h at) → NoneIsEmpty patterns
none_empty patterns ignore_case h at within nothing i d is_pattern =
    elim (cases_lt 0 (length (pattern_at patterns i))) [
      | inl some ↦ subst (λ (bytes : List ℕ). 0 < length bytes) (get_or_default patterns i [] d is_pattern) some
      | inr none ↦
          let empty : pattern_at patterns i ≡ [] = nil_from_length (pattern_at patterns i) (omega arith) in
          let zero : at + 0 - at ≡ 0 = omega arith in
          let same : slice_range h at (at + length (pattern_at patterns i)) ≡ pattern_at patterns i =
          subst (λ (bytes : List ℕ). slice_range h at (at + length bytes) ≡ bytes) (sym empty)
          (ap (λ k. take k (drop at h)) zero) in
          absurd (nothing i at (record {
            is_pattern = is_pattern;
            after_start = omega arith;
            before_end = omega arith;
            same = ap (case_folded ignore_case) same;
          }))
    ]

-- where a greedy list is followed by nothing, no pattern is empty
greedy_not_empty : (query : Query) (ignore_case : Bool) (haystack : List ℕ) (at : ℕ) (all : List MatchValue)
    → at ≤ length haystack → IsGreedy query ignore_case haystack at all → NoneIsEmpty query.patterns
greedy_not_empty query ignore_case haystack at [] within nothing =
    none_empty query.patterns ignore_case haystack at within nothing
greedy_not_empty query ignore_case haystack at (found ∷ more) within greedy =
    let fits = greedy.0.occurs.before_end in
    let whole = greedy.0.whole in
    greedy_not_empty query ignore_case haystack found.end more (omega arith) greedy.1

-- no pattern occurs whole between a place and the leftmost match from there on
nothing_between : (query : Query) (ignore_case : Bool) (haystack : List ℕ) (at : ℕ) (found : MatchValue)
    → NoneIsEmpty query.patterns → IsLeftmostMatch query ignore_case haystack (rest_from haystack at) found
    → NothingOccurs query.patterns ignore_case haystack (between at found.start)
nothing_between query ignore_case haystack at found not_empty leftmost i s occurs =
    let some : 0 < length (pattern_at query.patterns i) = not_empty i [] occurs.is_pattern in
    let fits = occurs.before_end in
    let there = leftmost.occurs.before_end in
    let before : s < found.start = omega arith in
    leftmost.earliest i s before
    (record {
      is_pattern = occurs.is_pattern;
      after_start = occurs.after_start;
      before_end = omega arith;
      same = occurs.same;
    })

apart_from : (query : Query) (ignore_case : Bool) (haystack : List ℕ) (at : ℕ) (all : List MatchValue)
    → NoneIsEmpty query.patterns → IsGreedy query ignore_case haystack at all
    → LieApart query.patterns ignore_case haystack at all
apart_from query ignore_case haystack at [] not_empty nothing = nothing
apart_from query ignore_case haystack at (found ∷ more) not_empty greedy =
    let leftmost = greedy.0 in
    let some : 0 < length (pattern_at query.patterns found.pattern) =
    not_empty found.pattern [] leftmost.occurs.is_pattern in
    let fits = leftmost.occurs.before_end in
    let whole = leftmost.whole in (
      leftmost.occurs.after_start,
      omega arith,
      omega arith,
      nothing_between query ignore_case haystack at found not_empty leftmost,
      apart_from query ignore_case haystack found.end more not_empty greedy.1,
    )

-- a greedy list lies apart
pub greedy_apart : (query : Query) (ignore_case : Bool) (haystack : List ℕ) (at : ℕ) (all : List MatchValue)
    → at ≤ length haystack → IsGreedy query ignore_case haystack at all
    → LieApart query.patterns ignore_case haystack at all
greedy_apart query ignore_case haystack at all within greedy =
    apart_from query ignore_case haystack at all (greedy_not_empty query ignore_case haystack at all within greedy)
    greedy

-- each of the matches takes a byte or more
pub apart_few : (patterns : List (List ℕ)) (ignore_case : Bool) (haystack : List ℕ) (at : ℕ) (all : List MatchValue)
    → LieApart patterns ignore_case haystack at all → length all ≤ length haystack - at
apart_few patterns ignore_case haystack at [] apart = omega arith
apart_few patterns ignore_case haystack at (found ∷ more) (after, some, within, nothing, apart) =
    let rest = apart_few patterns ignore_case haystack found.end more apart in
    omega arith

-- a match of a rest is an occurrence in the whole
pub found_occurs : (query : Query) (ignore_case : Bool) (haystack : List ℕ) (span : Span) (found : MatchValue)
    → span.end ≡ length haystack → IsLeftmostMatch query ignore_case haystack span found
    → ¬ NothingOccurs query.patterns ignore_case haystack (whole_of haystack)
found_occurs query ignore_case haystack span found to_end leftmost nothing =
    let fits = leftmost.occurs.before_end in
    nothing found.pattern found.start
    (record {
      is_pattern = leftmost.occurs.is_pattern;
      after_start = omega arith;
      before_end = omega arith;
      same = leftmost.occurs.same;
    })

-- a search of the rest, by a span that ends where the haystack does
pub rest_is : (haystack : List ℕ) (span : Span) → span.end ≡ length haystack → span ≡ rest_from haystack span.start
rest_is haystack span ends =
    let to : ℕ → Span = λ e. record { start = span.start; end = e } in
    ap to ends
