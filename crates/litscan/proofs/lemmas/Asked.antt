-- Occurrences of words in a line that `-w` and `-x` allow. For `asked` and `scan`.
use Rattle.std.proofs.Common.{◌≡◌, ℕ, ◌+◌, ◌<◌, ◌≤◌, ◌&&◌, Bool, true, false, List, [], length, get_or}
use Rattle.std.proofs.Common.{Option, Some, None, MatchOption, is_some, slice_range}
use Rattle.std.proofs.Common.{ap, sym, subst, ◌∙◌, arith, inl, inr}
use Rattle.std.proofs.lemmas.Bool.{and_from, and_parts, both_ways, cases_Bool, cases_lt, cond-false, cond-true}
use Rattle.std.proofs.lemmas.Bool.{le-leb, leb-true, not-true}
use Rattle.std.proofs.lemmas.List.{get_or_default}
use Rattle.std.proofs.lemmas.List.Folds.{Any-from_list_any, list_any_at}
use Rattle.std.proofs.lemmas.List.FromFn.{get_or-range_with_len, length-range_with_len}
use Rattle.std.proofs.lemmas.Slice.Eq.{bytes_eq-Decides}
use Rattle.std.specs.List.{list_any, range_with_len}
use Rattle.literal_base.specs.Leftmost.{IsBetter, IsLeftmost, IsLeftmostMatch}
use Rattle.literal_base.specs.MatchValue.{MatchValue}
use Rattle.literal_base.specs.Occurs.{Occurs, between, case_folded, one_occurs, pattern_at}
use Rattle.literal_base.specs.Occurs.{rest_from, stands_at}
use Rattle.literal_base.proofs.lemmas.Met.{occurs_if, one_occurs_if}
use Rattle.literal_base.specs.declared.packed.MatchKind.TheVariants.{LeftmostLongest}
use Rattle.literal_base.specs.declared.search.Span.{Span}
use Rattle.literal_search.specs.MatchesValue.{GivesStart, MatchesValue}
use Rattle.literal_search.specs.SearchValue.{SearchValue}
use Rattle.litscan.specs.Asked.{IsFirstAsked, NothingAsked, OccursAsked, is_asked, is_before_word, is_behind_word}
use Rattle.litscan.specs.Asked.{one_asked}
use Rattle.literal_search.proofs.lemmas.Callers.{matches_of}
use Rattle.litscan.specs.Inside.Asked.{IsAlong}
use Rattle.litscan.specs.declared.options.Options.{Options}

module _ (search : SearchValue) (options : Options) (line : List ℕ) where
  abbrev size : ℕ → ℕ
  size i = length (pattern_at search.query.patterns i)

  -- an occurrence in one span is an occurrence in each span that contains it
  pub occurs_in : {a b : Span} {i at : ℕ} → Occurs search.query.patterns search.ignore_case line a i at
      → b.start ≤ at → at + length (pattern_at search.query.patterns i) ≤ b.end
      → Occurs search.query.patterns search.ignore_case line b i at
  occurs_in o after before = record {
    is_pattern = o.is_pattern;
    after_start = after;
    before_end = before;
    same = o.same;
  }

  pub asked_in : {a b : Span} {i at : ℕ} → OccursAsked search options line a i at
      → b.start ≤ at → at + length (pattern_at search.query.patterns i) ≤ b.end
      → OccursAsked search options line b i at
  asked_in o after before = record { occurs = occurs_in o.occurs after before; asked = o.asked }

  -- without `-x`, an occurrence can be refused only by `-w`
  pub asks_alone : (start end : ℕ) → options.whole ≡ false → is_asked options line start end ≡ false
      → options.alone ≡ true
  asks_alone start end part other =
      elim (cases_Bool options.alone) [
        | inl alone ↦ alone
        | inr any ↦
            absurd (both_ways (is_asked options line start end) other
            (cond-false options.whole _ _ part ∙ cond-false options.alone _ _ any))
      ]

  -- with `-w` and without `-x`, an allowed occurrence has no word byte next to it
  pub has_sides : (start end : ℕ) → options.whole ≡ false → options.alone ≡ true
      → is_asked options line start end ≡ true
      → (is_behind_word line start ≡ false) × (is_before_word line end ≡ false)
  has_sides start end part alone asked =
      let both = and_parts _ _ (sym (cond-false options.whole _ _ part ∙ cond-true options.alone _ _ alone) ∙ asked) in
      (not-true _ both.0, not-true _ both.1)

  -- no pattern that occurs at the start of a leftmost match is longer than the match
  pub none_longer : {span : Span} {found : MatchValue} → search.query.kind ≡ LeftmostLongest
      → IsLeftmostMatch search.query search.ignore_case line span found → (i : ℕ)
      → Occurs search.query.patterns search.ignore_case line span i found.start
      → found.start + length (pattern_at search.query.patterns i) ≤ found.end
  none_longer {span} {found} kind leftmost i occurs =
      elim (cases_lt (size found.pattern) (size i)) [
        | inl longer ↦
            absurd (leftmost.best i
            (subst (λ k. IsBetter k search.query.patterns i found.pattern) (sym kind) (inl longer)) occurs)
        | inr not_longer ↦ omega (arith, leftmost.whole, not_longer)
      ]

  -- nor is one of the same length listed before
  pub none_before : {span : Span} {found : MatchValue} → search.query.kind ≡ LeftmostLongest
      → IsLeftmostMatch search.query search.ignore_case line span found → (i : ℕ)
      → Occurs search.query.patterns search.ignore_case line span i found.start → size i ≡ size found.pattern
      → found.pattern ≤ i
  none_before {span} {found} kind leftmost i occurs same =
      elim (cases_lt i found.pattern) [
        | inl before ↦
            absurd (leftmost.best i
            (subst (λ k. IsBetter k search.query.patterns i found.pattern) (sym kind) (inr (same, before))) occurs)
        | inr behind ↦ behind
      ]

  -- a leftmost match that is allowed is the first allowed one
  pub first_if_asked : {span : Span} {found : MatchValue} → search.query.kind ≡ LeftmostLongest
      → IsLeftmostMatch search.query search.ignore_case line span found
      → is_asked options line found.start found.end ≡ true → IsFirstAsked search options line span found
  first_if_asked {span} {found} kind leftmost asked = record {
    occurs = record {
      occurs = leftmost.occurs;
      asked = subst (λ end. is_asked options line found.start end ≡ true) leftmost.whole asked;
    };
    whole = leftmost.whole;
    first = λ i at o.
        elim (cases_lt at found.start) [
          | inl before ↦ absurd (leftmost.earliest i at before o.occurs)
          | inr behind ↦ behind
        ];
    longest = λ i o. none_longer kind leftmost i o.occurs;
    listed = λ i o same. none_before kind leftmost i o.occurs same;
  }

  -- a leftmost match is the leftmost from its start on
  pub leftmost_here : {span : Span} {found : MatchValue} → span.end ≡ length line
      → IsLeftmostMatch search.query search.ignore_case line span found
      → IsLeftmostMatch search.query search.ignore_case line (rest_from line found.start) found
  leftmost_here {span} {found} end leftmost = record {
    occurs = occurs_in leftmost.occurs (omega arith) (omega (arith, leftmost.occurs.before_end, end));
    whole = leftmost.whole;
    earliest = λ i at before o. omega (arith, before, o.after_start);
    best = λ i better o.
        leftmost.best i better
        (occurs_in o leftmost.occurs.after_start (omega (arith, o.before_end, end)));
  }

  -- no allowed occurrence begins before a leftmost match
  pub begins_at : {a b : Span} {found : MatchValue} → a.end ≡ b.end
      → IsLeftmostMatch search.query search.ignore_case line a found
      → ((i at : ℕ) → OccursAsked search options line b i at → a.start ≤ at)
      → (i at : ℕ) → OccursAsked search options line b i at → found.start ≤ at
  begins_at {a} {b} {found} end leftmost begins i at o =
      elim (cases_lt at found.start) [
        | inl before ↦
            absurd (leftmost.earliest i at before
            (occurs_in o.occurs (begins i at o) (omega (arith, o.occurs.before_end, end))))
        | inr not_before ↦ not_before
      ]

  -- the next match of an iteration over the matches at all offsets
  pub start_along : (at : ℕ) (m next : MatchesValue) (answer : Option MatchValue) → IsAlong search line at m
      → GivesStart m answer next
      → IsLeftmost search.query search.ignore_case line (between m.at (length line)) answer
  start_along at m next answer along step = grind arith

  -- the iteration continues after its start
  pub along_after : (at : ℕ) (m next : MatchesValue) (found : MatchValue) → IsAlong search line at m
      → GivesStart m (Some found) next → IsAlong search line (found.start + 1) next
  along_after at m next found along step = record {
    search_is = ap (λ (it : MatchesValue). it.search) step.goes_on ∙ along.search_is;
    haystack_is = ap (λ (it : MatchesValue). it.haystack) step.goes_on ∙ along.haystack_is;
    end_is = ap (λ (it : MatchesValue). it.span.end) step.goes_on ∙ along.end_is;
    before = omega (arith, ap (λ (it : MatchesValue). it.at) step.goes_on);
  }

  -- where it has just begun
  pub along_first : (m : MatchesValue) → m ≡ matches_of search line → IsAlong search line 0 m
  along_first m begun = record {
    search_is = ap (λ (it : MatchesValue). it.search) begun;
    haystack_is = ap (λ (it : MatchesValue). it.haystack) begun;
    end_is = ap (λ (it : MatchesValue). it.span.end) begun;
    before = omega (arith, ap (λ (it : MatchesValue). it.at) begun);
  }

  -- it is also along from any later offset
  pub along_from : {at later : ℕ} {m : MatchesValue} → at ≤ later → IsAlong search line at m
      → IsAlong search line later m
  along_from {at} {later} {m} after along = record {
    search_is = along.search_is;
    haystack_is = along.haystack_is;
    end_is = along.end_is;
    before = omega (arith, after, along.before);
  }

  -- if a leftmost match is not allowed, each allowed occurrence at its start is shorter
  pub is_shorter : {span : Span} {found : MatchValue} → search.query.kind ≡ LeftmostLongest
      → IsLeftmostMatch search.query search.ignore_case line span found
      → is_asked options line found.start found.end ≡ false → (i : ℕ)
      → OccursAsked search options line span i found.start
      → found.start + length (pattern_at search.query.patterns i) + 1 ≤ found.end
  is_shorter {span} {found} kind leftmost other i o =
      let most = none_longer kind leftmost i o.occurs in
      elim (cases_lt (found.start + size i) found.end) [
        | inl less ↦ omega (arith, less)
        | inr not_less ↦
            let same : found.start + size i ≡ found.end = omega (arith, most, not_less) in
            absurd (both_ways (is_asked options line found.start found.end) other
            (subst (λ end. is_asked options line found.start end ≡ true) same o.asked))
      ]

  -- if the leftmost match is not allowed, but a shorter occurrence at its start is, the latter is the first allowed one
  pub first_shorter : {span : Span} {found shorter : MatchValue} {start end : ℕ}
      → search.query.kind ≡ LeftmostLongest → IsLeftmostMatch search.query search.ignore_case line span found
      → is_asked options line found.start found.end ≡ false → start ≡ found.start → end + 1 ≡ found.end
      → shorter.start ≡ start → IsFirstAsked search options line (between start end) shorter
      → IsFirstAsked search options line span shorter
  first_shorter {span} {found} {shorter} {start} {end} kind leftmost other start_is end_is place is = record {
    occurs = asked_in is.occurs (omega (arith, place, start_is, leftmost.occurs.after_start))
        (omega (arith, is.occurs.occurs.before_end, end_is, leftmost.whole, leftmost.occurs.before_end));
    whole = is.whole;
    first = λ i at o.
        elim (cases_lt at found.start) [
          | inl before ↦ absurd (leftmost.earliest i at before o.occurs)
          | inr behind ↦ omega (arith, behind, place, start_is)
        ];
    longest = λ i o.
        let here = subst (λ at. OccursAsked search options line span i at) (place ∙ start_is) o in
        let less = is_shorter kind leftmost other i here in
        is.longest i (asked_in o (omega (arith, place)) (omega (arith, less, place, start_is, end_is)));
    listed = λ i o same.
        let here = subst (λ at. OccursAsked search options line span i at) (place ∙ start_is) o in
        let less = is_shorter kind leftmost other i here in
        is.listed i (asked_in o (omega (arith, place)) (omega (arith, less, place, start_is, end_is))) same;
  }

  -- the longest allowed occurrence at the start of a leftmost match that is not allowed is one of the shorter ones
  pub asked_below : {span : Span} {found : MatchValue} (start end : ℕ) (answer : Option MatchValue)
      → search.query.kind ≡ LeftmostLongest → IsLeftmostMatch search.query search.ignore_case line span found
      → is_asked options line found.start found.end ≡ false → start ≡ found.start → end + 1 ≡ found.end
      → MatchOption answer ((i : ℕ) → ¬ OccursAsked search options line (between start end) i start)
      (λ it. (it.start ≡ start) × IsFirstAsked search options line (between start end) it)
      → MatchOption answer ((i : ℕ) → ¬ OccursAsked search options line span i found.start)
      (λ it. (it.start ≡ found.start) × IsFirstAsked search options line span it)
  asked_below {span} {found} start end None kind leftmost other start_is end_is none = λ i o.
      let less = is_shorter kind leftmost other i o in
      none i (subst (λ at. OccursAsked search options line (between start end) i at) (sym start_is)
      (asked_in o (omega (arith, start_is)) (omega (arith, less, end_is))))
  asked_below {span} {found} start end (Some it) kind leftmost other start_is end_is is =
      (is.0 ∙ start_is, first_shorter kind leftmost other start_is end_is is.0 is.1)

  abbrev here_by : ℕ → List ℕ → Bool
  here_by at bytes = stands_at search.ignore_case bytes line at && is_asked options line at (at + length bytes)

  abbrev here : ℕ → Bool
  here at = list_any (here_by at) search.query.patterns

  abbrev places : List ℕ
  places = range_with_len 0 (length line + 1)

  -- the test is true if there is an allowed occurrence
  pub one_asked_if : (i at : ℕ) → OccursAsked search options line (rest_from line 0) i at
      → one_asked search options line ≡ true
  one_asked_if i at o =
      let bytes = pattern_at search.query.patterns i in
      let there = case_folded search.ignore_case (slice_range line at (at + length bytes)) in
      let below : at < length line + 1 = omega (arith, o.occurs.before_end) in
      let is : get_or places at 0 ≡ at = get_or-range_with_len 0 (length line + 1) at 0 below ∙ omega arith in
      let stands : stands_at search.ignore_case bytes line at ≡ true =
      and_from _ _ (le-leb (at + length bytes) (length line) o.occurs.before_end)
      ((bytes_eq-Decides there (case_folded search.ignore_case bytes)).1 o.occurs.same) in
      let one : here at ≡ true =
      list_any_at (here_by at) search.query.patterns i [] o.occurs.is_pattern (and_from _ _ stands o.asked) in
      list_any_at here places at 0 (omega (arith, length-range_with_len 0 (length line + 1)))
      (subst (λ place. here place ≡ true) (sym is) one)

  pub asked_if : one_asked search options line ≡ true
      → (i : ℕ) × (at : ℕ) × OccursAsked search options line (rest_from line 0) i at
  asked_if told =
      let place = Any-from_list_any here places told in
      let found = Any-from_list_any (here_by place.1) search.query.patterns place.4 in
      let is : found.1 ≡ pattern_at search.query.patterns found.0 =
      sym (get_or_default search.query.patterns found.0 [] found.1 found.2 ∙ found.3) in
      let both = subst (λ bytes. here_by place.1 bytes ≡ true) is found.4 in
      let halves = and_parts _ _ both in
      let parts = and_parts _ _ halves.0 in (
        found.0,
        place.1,
        record {
          occurs = record {
            is_pattern = found.2;
            after_start = omega arith;
            before_end = leb-true _ _ parts.0;
            same = (bytes_eq-Decides _ _).0 parts.1;
          };
          asked = halves.1;
        },
      )

  -- the test is true exactly if there is a first allowed match
  pub told_by_first : (answer : Option MatchValue)
      → MatchOption answer (NothingAsked search options line (rest_from line 0))
      (IsFirstAsked search options line (rest_from line 0)) → is_some answer ≡ one_asked search options line
  told_by_first None nothing =
      elim (cases_Bool (one_asked search options line)) [
        | inl told ↦ let o = asked_if told in absurd (nothing o.0 o.1 o.2)
        | inr other ↦ sym other
      ]
  told_by_first (Some found) is = sym (one_asked_if found.pattern found.start is.occurs)

  -- if all occurrences are allowed, the test is true exactly if a pattern occurs
  pub told_by_any : options.whole ≡ false → options.alone ≡ false
      → one_occurs search.query.patterns search.ignore_case line ≡ one_asked search options line
  told_by_any any_place any_side =
      elim (cases_Bool (one_occurs search.query.patterns search.ignore_case line)) [
        | inl told ↦
            let o = occurs_if search.query.patterns search.ignore_case line told in
            let asked = cond-false options.whole _ _ any_place ∙ cond-false options.alone _ _ any_side in
            told ∙ sym (one_asked_if o.0 o.1 (record { occurs = o.2; asked = asked }))
        | inr other ↦
            elim (cases_Bool (one_asked search options line)) [
              | inl told ↦
                  let o = asked_if told in
                  absurd (both_ways _ other
                  (one_occurs_if search.query.patterns search.ignore_case line o.0 o.1 o.2.occurs))
              | inr none ↦ other ∙ sym none
            ]
      ]
