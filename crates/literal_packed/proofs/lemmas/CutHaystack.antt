-- A search of a haystack that is cut at the end of the span.
-- For `Searcher::find_in_counted` and confirming searches.
use Rattle.std.proofs.Common.{◌≡◌, ℕ, ◌+◌, ◌-◌, ◌%◌, ◌<◌, ◌≤◌, Bool, false, ◌&&◌, eqb, List, length, take, drop, get_or}
use Rattle.std.proofs.Common.{Some, None, Option, refl, sym, ap, subst, ◌∙◌, arith}
use Rattle.std.specs.List.{All, slice_range, sum_by, count_by, range_with_len}
use Rattle.std.proofs.lemmas.List.{take-take, length-take-le}
use Rattle.std.proofs.lemmas.List.Elements.{All-head, All-tail}
use Rattle.std.proofs.lemmas.List.FromFn.{get_or-range_with_len, length-range_with_len}
use Rattle.std.proofs.lemmas.List.Sums.{sum_by-cons}
use Rattle.std.proofs.lemmas.Slice.{between_is}
use Rattle.std.proofs.Common.{[], ◌∷◌}
use Rattle.literal_base.specs.declared.search.Span.{Span}
use Rattle.literal_base.specs.Counts.{Counts}
use Rattle.literal_base.specs.Query.{Query}
use Rattle.literal_base.specs.MatchValue.{MatchValue}
use Rattle.literal_base.specs.Occurs.{pattern_at, Occurs, rest_from}
use Rattle.literal_base.specs.Leftmost.{IsLeftmost}
use Rattle.literal_packed.specs.PatternsValue.{minimum_len_of}
use Rattle.literal_packed.specs.Sum.{sum_of}
use Rattle.literal_packed.specs.Pairs.{key_of, window_sum, pairs_between, pairs_up_to, counts_after}
use Rattle.literal_packed.proofs.lemmas.Ties.{is_up_to}
use Rattle.literal_packed.proofs.lemmas.MinimumLen.{minimum_len_of-le}
use Rattle.literal_packed.proofs.lemmas.PlaceCounts.{same_three}

pub cut_range : (h : List ℕ) (e a b : ℕ) → b ≤ e → slice_range (take e h) a b ≡ slice_range h a b
cut_range h e a b below = between_is (take e h) a b ∙ (ap (drop a) (take-take b e h below) ∙ sym (between_is h a b))

pub sum_by-same : {X : Type 0} (f g : X → ℕ) (xs : List X) → All (λ x. f x ≡ g x) xs → sum_by f xs ≡ sum_by g xs
sum_by-same f g [] same = refl
sum_by-same f g (x ∷ xs) same =
    sum_by-cons f x xs
    ∙ (ap (λ n. n + sum_by f xs) (All-head (λ x. f x ≡ g x) x xs same)
    ∙ (ap (λ n. g x + n) (sum_by-same f g xs (All-tail (λ x. f x ≡ g x) x xs same)) ∙ sym (sum_by-cons g x xs)))

-- tests that look at a place's sum alone
pairs_same : (t : ℕ → ℕ → Bool) (w v : ℕ → ℕ) (n from to : ℕ) → ((s : ℕ) → s < to → w s ≡ v s)
    → pairs_between (λ s i. t (w s) i) n from to ≡ pairs_between (λ s i. t (v s) i) n from to
pairs_same t w v n from to same =
    sum_by-same _ _ (range_with_len from (to - from)) (λ k d h.
    let within : k < to - from = omega (arith, length-range_with_len from (to - from)) in
    let place = get_or-range_with_len from (to - from) k d within in
    let s = get_or (range_with_len from (to - from)) k d in
    ap (λ u. count_by (λ i. t u i) (range_with_len 0 n)) (same s (omega arith)))

module _ (query : Query) (h : List ℕ) (span : Span) (inside : span.end ≤ length h) where
  abbrev cut : List ℕ
  cut = take span.end h

  span_is : rest_from cut span.start ≡ span
  span_is =
      let to : ℕ → Span = λ e. record { start = span.start; end = e } in
      ap to (length-take-le span.end h inside)

  -- what occurs in the one occurs in the other
  uncut : (i at : ℕ) → Occurs query.patterns false cut span i at → Occurs query.patterns false h span i at
  uncut i at o = record {
    is_pattern = o.is_pattern;
    after_start = o.after_start;
    before_end = o.before_end;
    same = sym (cut_range h span.end at (at + length (pattern_at query.patterns i)) o.before_end) ∙ o.same;
  }

  recut : (i at : ℕ) → Occurs query.patterns false h span i at → Occurs query.patterns false cut span i at
  recut i at o = record {
    is_pattern = o.is_pattern;
    after_start = o.after_start;
    before_end = o.before_end;
    same = cut_range h span.end at (at + length (pattern_at query.patterns i)) o.before_end ∙ o.same;
  }

  leftmost_cut : (answer : Option MatchValue) → IsLeftmost query false cut span answer
      → IsLeftmost query false h span answer
  leftmost_cut None nothing = λ i at o. nothing i at (recut i at o)
  leftmost_cut (Some found) l = record {
    occurs = uncut found.pattern found.start l.occurs;
    whole = l.whole;
    earliest = λ i at before o. l.earliest i at before (recut i at o);
    best = λ i better o. l.best i better (recut i found.start o);
  }

  abbrev m : ℕ
  m = minimum_len_of query.patterns

  same_sum : (s : ℕ) → s + m ≤ span.end → window_sum query.patterns cut s ≡ window_sum query.patterns h s
  same_sum s within = ap sum_of (cut_range h span.end s (s + m) within)

  -- the pairs up to the answer are the same, for a test of the place's sum
  pairs_cut : (t : ℕ → ℕ → Bool) (answer : Option MatchValue) → IsLeftmost query false cut span answer
      → pairs_up_to (λ s i. t (window_sum query.patterns cut s) i) query span answer ≡ pairs_up_to
      (λ s i. t (window_sum query.patterns h s) i) query span answer
  pairs_cut t None nothing = pairs_same t (window_sum query.patterns cut) (window_sum query.patterns h)
      (length query.patterns) span.start (span.end + 1 - m) (λ s before. same_sum s (omega arith))
  pairs_cut t (Some found) l =
      let fits = l.occurs.before_end in
      let long = minimum_len_of-le query.patterns found.pattern l.occurs.is_pattern in
      let room : found.start + m ≤ span.end = omega arith in
      let before : pairs_between (λ s i. t (window_sum query.patterns cut s) i)
      (length query.patterns) span.start found.start ≡ pairs_between (λ s i. t (window_sum query.patterns h s) i)
      (length query.patterns) span.start found.start =
      pairs_same t (window_sum query.patterns cut) (window_sum query.patterns h)
      (length query.patterns) span.start found.start (λ s before. same_sum s (omega arith)) in
      let at : (v : ℕ) → ℕ = λ v. count_by (λ i. t v i && is_up_to query.kind query.patterns found.pattern i)
      (range_with_len 0 (length query.patterns)) in
      ap (λ k. k + at (window_sum query.patterns cut found.start)) before
      ∙ ap (λ v. pairs_between (λ s i. t (window_sum query.patterns h s) i)
      (length query.patterns) span.start found.start + at v) (same_sum found.start room)

  pub leftmost_uncut : (answer : Option MatchValue) → IsLeftmost query false cut (rest_from cut span.start) answer
      → IsLeftmost query false h span answer
  leftmost_uncut answer l = leftmost_cut answer (subst (λ (s : Span). IsLeftmost query false cut s answer) span_is l)

  pub counts_uncut : (old : Counts) (answer : Option MatchValue)
      → IsLeftmost query false cut (rest_from cut span.start) answer
      → counts_after old query cut (rest_from cut span.start) answer ≡ counts_after old query h span answer
  counts_uncut old answer l =
      let l_span = subst (λ (s : Span). IsLeftmost query false cut s answer) span_is l in
      ap (λ (s : Span). counts_after old query cut s answer) span_is
      ∙ same_three old _ _ _ _ _ _ refl
      (ap (λ n. old.entries + n) (pairs_cut (λ v i. eqb (key_of query.patterns i % 64) (v % 64)) answer l_span))
      (ap (λ n. old.compared + n) (pairs_cut (λ v i. eqb (key_of query.patterns i) v) answer l_span))
