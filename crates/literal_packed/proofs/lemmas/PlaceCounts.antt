-- The counts of a search, place by place.
-- For `RabinKarp::look_up` and `walk`.
use Rattle.std.proofs.Common.{◌≡◌, ℕ, ◌+◌, ◌-◌, ◌≤◌, Bool, false, cond, ltb, List, length, Some, None, sym, ap, ◌∙◌}
use Rattle.std.proofs.Common.{arith}
use Rattle.std.specs.List.{range_with_len, sum_by}
use Rattle.std.proofs.lemmas.Bool.{le-ltb}
use Rattle.std.proofs.lemmas.List.Sums.{sum_by_push}
use Rattle.literal_base.specs.Counts.{Counts}
use Rattle.literal_base.specs.MatchValue.{MatchValue}
use Rattle.literal_base.specs.Occurs.{rest_from}
use Rattle.literal_packed.specs.PatternsValue.{query_of, PatternsValue, minimum_len_of}
use Rattle.literal_packed.specs.Pairs.{pairs_at, pairs_between, pairs_at_up_to, pairs_up_to, hashed_up_to}
use Rattle.literal_packed.specs.Pairs.{has_equal_bucket, has_equal_sum}
use Rattle.literal_packed.proofs.lemmas.Lists.{range-more}

-- the pairs of one place more
pub pairs_between-more : (test : ℕ → ℕ → Bool) (n from to : ℕ) → from ≤ to
    → pairs_between test n from (to + 1) ≡ pairs_between test n from to + pairs_at test n to
pairs_between-more test n from to le =
    let long : to + 1 - from ≡ to - from + 1 = omega arith in
    let place : from + (to - from) ≡ to = omega arith in
    ap (λ k. sum_by (pairs_at test n) (range_with_len from k)) long
    ∙ (ap (sum_by (pairs_at test n)) (range-more from (to - from))
    ∙ (sum_by_push (pairs_at test n) (range_with_len from (to - from)) (from + (to - from))
    ∙ ap (λ s. pairs_between test n from to + pairs_at test n s) place))

pub pairs_between-none : (test : ℕ → ℕ → Bool) (n from to : ℕ) → to ≤ from → pairs_between test n from to ≡ 0
pairs_between-none test n from to le =
    let short : to - from ≡ 0 = omega arith in
    ap (λ k. sum_by (pairs_at test n) (range_with_len from k)) short

-- the counts with these bytes hashed, entries read and patterns compared, and the others as they were
abbrev pub with_three : Counts → ℕ → ℕ → ℕ → Counts
with_three old h e c = record old { hashed = h; entries = e; compared = c }

pub same_three : (old : Counts) (h e c h' e' c' : ℕ) → h ≡ h' → e ≡ e' → c ≡ c'
    → with_three old h e c ≡ with_three old h' e' c'
same_three old h e c h' e' c' p q r =
    ap (λ n. with_three old n e c) p ∙ (ap (λ n. with_three old h' n c) q ∙ ap (λ n. with_three old h' e' n) r)

-- the counts after a look-up
abbrev pub with_looked : Counts → ℕ → ℕ → Counts
with_looked t e c = record t { entries = t.entries + e; compared = t.compared + c }

-- the counts after some more of the three kinds
abbrev pub counted_all : Counts → ℕ → ℕ → ℕ → Counts
counted_all old h e c = with_three old (old.hashed + h) (old.entries + e) (old.compared + c)

module _ (c : PatternsValue) (haystack : List ℕ) (from : ℕ) where
  abbrev n : ℕ
  n = length c.patterns

  abbrev m : ℕ
  m = minimum_len_of c.patterns

  abbrev by_bucket : ℕ → ℕ → Bool
  by_bucket = has_equal_bucket c.patterns haystack

  abbrev by_sum : ℕ → ℕ → Bool
  by_sum = has_equal_sum c.patterns haystack

  -- the counts before the look-up at a place
  abbrev pub before : Counts → ℕ → Counts
  before old place = counted_all old (place + m - from) (pairs_between by_bucket n from place)
      (pairs_between by_sum n from place)

  -- nothing was found at the place, and the window rolled on
  pub counts_rolled : (old now looked rolled : Counts) (place : ℕ) → from ≤ place → now ≡ before old place
      → looked ≡ record now {
        entries = now.entries + pairs_at by_bucket n place;
        compared = now.compared + pairs_at by_sum n place;
      }
      → rolled ≡ record looked { hashed = looked.hashed + 1 } → rolled ≡ before old (place + 1)
  counts_rolled old now looked rolled place le was next then =
      let roll : Counts → Counts = λ t. record t { hashed = t.hashed + 1 } in
      then ∙ (ap roll next
      ∙ (ap (λ t. roll (with_looked t (pairs_at by_bucket n place) (pairs_at by_sum n place))) was
      ∙ same_three old _ _ _ _ _ _ (omega arith) (omega (arith, pairs_between-more by_bucket n from place le))
      (omega (arith, pairs_between-more by_sum n from place le))))

  -- a match was found at the place
  pub counts_some : (old now looked : Counts) (place j : ℕ) (found : MatchValue) → found.start ≡ place
      → found.pattern ≡ j → now ≡ before old place
      → looked ≡ record now {
        entries = now.entries + pairs_at_up_to by_bucket (query_of c) place j;
        compared = now.compared + pairs_at_up_to by_sum (query_of c) place j;
      }
      → looked ≡ counted_all old (hashed_up_to c.patterns (rest_from haystack from) (Some found))
      (pairs_up_to by_bucket (query_of c) (rest_from haystack from) (Some found))
      (pairs_up_to by_sum (query_of c) (rest_from haystack from) (Some found))
  counts_some old now looked place j found at is_j was next =
      let total : (ℕ → ℕ → Bool) → ℕ → ℕ → ℕ = λ test s i. pairs_between test n from s + pairs_at_up_to test
      (query_of c) s i in
      let there : (test : ℕ → ℕ → Bool) → total test place j ≡ total test found.start found.pattern =
      λ test. ap (λ s. total test s j) (sym at) ∙ ap (λ i. total test found.start i) (sym is_j) in
      next ∙ (ap (λ t. with_looked t (pairs_at_up_to by_bucket (query_of c) place j)
      (pairs_at_up_to by_sum (query_of c) place j)) was
      ∙ same_three old _ _ _ _ _ _ (omega (arith, at)) (omega (arith, there by_bucket)) (omega (arith, there by_sum)))

  -- nothing was found at the last place
  pub counts_end : (old now looked : Counts) (last : ℕ) → from ≤ last → last + m ≡ length haystack
      → now ≡ before old last
      → looked ≡ record now {
        entries = now.entries + pairs_at by_bucket n last;
        compared = now.compared + pairs_at by_sum n last;
      }
      → looked ≡ counted_all old (hashed_up_to c.patterns (rest_from haystack from) None)
      (pairs_up_to by_bucket (query_of c) (rest_from haystack from) None)
      (pairs_up_to by_sum (query_of c) (rest_from haystack from) None)
  counts_end old now looked last le whole was next =
      let fits : ltb (length haystack - from) m ≡ false = le-ltb _ _ (omega arith) in
      let hashed : last + m - from ≡ cond (ltb (length haystack - from) m) 0 (length haystack - from) =
      ap (λ k. k - from) whole ∙ sym (ap (λ b. cond b 0 (length haystack - from)) fits) in
      let place : last + 1 ≡ length haystack + 1 - m = omega arith in
      let all : (test : ℕ → ℕ → Bool) → pairs_between test n from last + pairs_at test n last
      ≡ pairs_between test n from (length haystack + 1 - m) =
      λ test. sym (pairs_between-more test n from last le) ∙ ap (pairs_between test n from) place in
      next ∙ (ap (λ t. with_looked t (pairs_at by_bucket n last) (pairs_at by_sum n last)) was
      ∙ same_three old _ _ _ _ _ _ (omega (arith, hashed)) (omega (arith, all by_bucket)) (omega (arith, all by_sum)))
