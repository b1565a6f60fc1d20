-- A search takes no more steps than there are bytes and pairs between where it begins and where it goes on.
-- For `Searcher::find_all`, and the laws on counts.
use Rattle.std.proofs.Common.{◌≡◌, ℕ, ◌+◌, ◌-◌, ◌<◌, ◌≤◌, Bool, true, false, ◌&&◌, cond, ltb, List, length, Option}
use Rattle.std.proofs.Common.{Some, None, inl, inr, refl, sym, ap, subst, ◌∙◌, arith}
use Rattle.std.specs.List.{sum_by, range_with_len}
use Rattle.std.proofs.lemmas.Bool.{cases_lt, lt-ltb, le-ltb}
use Rattle.std.proofs.lemmas.List.Sums.{sum_by-append, sum_by-le-sum_by}
use Rattle.literal_base.specs.declared.search.Span.{Span}
use Rattle.literal_base.specs.Counts.{Counts}
use Rattle.literal_base.specs.MatchValue.{MatchValue}
use Rattle.literal_base.specs.Occurs.{NothingOccurs, rest_from}
use Rattle.literal_base.specs.Leftmost.{IsLeftmostMatch}
use Rattle.literal_packed.specs.PatternsValue.{minimum_len_of}
use Rattle.literal_packed.specs.Pairs.{has_equal_sum, has_equal_bucket, pairs_at, pairs_between, pairs_at_up_to}
use Rattle.literal_packed.specs.Pairs.{counts_after}
use Rattle.literal_base.specs.Query.{Query}
use Rattle.literal_packed.specs.FindIterValue.{FindIterValue, FindsNext, after_answer}
use Rattle.literal_packed.specs.Spending.{SpendsAtMost, SpendsWithin}
use Rattle.literal_packed.proofs.lemmas.Ties.{is_up_to}
use Rattle.literal_packed.proofs.lemmas.Lists.{range-append}
use Rattle.literal_packed.proofs.lemmas.MinimumLen.{minimum_len_of-le, minimum_len_of_some}
use Rattle.literal_base.proofs.lemmas.GreedyLists.{none_empty, rest_is}
use Rattle.literal_packed.proofs.lemmas.PlaceCounts.{pairs_between-more, pairs_between-none}

pairs_between-split : (test : ℕ → ℕ → Bool) (n a b c : ℕ) → a ≤ b → b ≤ c
    → pairs_between test n a c ≡ pairs_between test n a b + pairs_between test n b c
pairs_between-split test n a b c low high =
    let long : c - a ≡ (b - a) + (c - b) = omega arith in
    let place : a + (b - a) ≡ b = omega arith in
    ap (λ k. sum_by (pairs_at test n) (range_with_len a k)) long
    ∙ (ap (sum_by (pairs_at test n)) (range-append a (b - a) (c - b))
    ∙ (sum_by-append (pairs_at test n) (range_with_len a (b - a)) (range_with_len (a + (b - a)) (c - b))
    ∙ ap (λ s. pairs_between test n a b + sum_by (pairs_at test n) (range_with_len s (c - b))) place))

-- fewer places, fewer pairs
pairs_between-le : (test : ℕ → ℕ → Bool) (n a b c : ℕ) → a ≤ b → pairs_between test n b c ≤ pairs_between test n a c
pairs_between-le test n a b c low =
    elim (cases_lt c b) [
      | inl short ↦ omega (arith, pairs_between-none test n b c (omega arith))
      | inr within ↦ omega (arith, pairs_between-split test n a b c low within)
    ]

both-le : (x y : Bool) → cond (x && y) 1 0 ≤ cond x 1 0
both-le true true = omega arith
both-le true false = omega arith
both-le false y = omega arith

pairs_at_up_to-le : (test : ℕ → ℕ → Bool) (query : Query) (at j : ℕ)
    → pairs_at_up_to test query at j ≤ pairs_at test (length query.patterns) at
pairs_at_up_to-le test query at j =
    sum_by-le-sum_by (λ i. cond (test at i && is_up_to query.kind query.patterns j i) 1 0) (λ i. cond (test at i) 1 0)
    (range_with_len 0 (length query.patterns)) (λ i. both-le (test at i) (is_up_to query.kind query.patterns j i))

-- the pairs up to a match, and those from its end on
pairs_up_to-le : (test : ℕ → ℕ → Bool) (query : Query) (from to last : ℕ) (found : MatchValue)
    → from ≤ found.start → found.start < to → found.start < last
    → pairs_between test (length query.patterns) from found.start + pairs_at_up_to test query found.start found.pattern
    + pairs_between test (length query.patterns) to last ≤ pairs_between test (length query.patterns) from last
pairs_up_to-le test query from to last found after before room =
    let n = length query.patterns in
    let t = found.start in
    let here : pairs_at_up_to test query t found.pattern ≤ pairs_at test n t =
    pairs_at_up_to-le test query t found.pattern in
    let more : pairs_between test n from (t + 1) ≡ pairs_between test n from t + pairs_at test n t =
    pairs_between-more test n from t after in
    let whole : pairs_between test n from last ≡ pairs_between test n from (t + 1) + pairs_between test n (t + 1) last =
    pairs_between-split test n from (t + 1) last (omega arith) (omega arith) in
    let rest : pairs_between test n to last ≤ pairs_between test n (t + 1) last = pairs_between-le test n
    (t + 1) to last (omega arith) in
    omega arith

hashed_at_most : (n m : ℕ) → cond (ltb n m) 0 n ≤ n
hashed_at_most n m =
    elim (cases_lt n m) [
      | inl less ↦ rw (lt-ltb n m less) (omega arith)
      | inr more ↦ rw (le-ltb n m more) (omega arith)
    ]

module _ (query : Query) (haystack : List ℕ) (from : ℕ) (old new : Counts) (within : from ≤ length haystack) where
  abbrev patterns : List (List ℕ)
  patterns = query.patterns

  abbrev last : ℕ
  last = length haystack + 1 - minimum_len_of patterns

  hashed_of : Counts → ℕ
  hashed_of c = c.hashed

  spends_some : (found : MatchValue) → found.start < found.end
      → IsLeftmostMatch query false haystack (rest_from haystack from) found
      → new ≡ counts_after old query haystack (rest_from haystack from) (Some found)
      → SpendsAtMost query haystack from found.end old new
  spends_some found not_empty l is =
      let fits = l.occurs.before_end in
      let after = l.occurs.after_start in
      let whole = l.whole in
      let long = minimum_len_of-le patterns found.pattern l.occurs.is_pattern in
      let hashed : new.hashed ≡ old.hashed + (found.start + minimum_len_of patterns - from) = ap
      (λ (c : Counts). c.hashed) is in
      let entries : new.entries ≡ old.entries +
      (pairs_between (has_equal_bucket patterns haystack) (length patterns) from found.start + pairs_at_up_to
      (has_equal_bucket patterns haystack) query found.start
      found.pattern) = ap (λ (c : Counts). c.entries) is in
      let compared : new.compared ≡ old.compared +
      (pairs_between (has_equal_sum patterns haystack) (length patterns) from found.start + pairs_at_up_to
      (has_equal_sum patterns haystack) query found.start
      found.pattern) = ap (λ (c : Counts). c.compared) is in
      let others : Counts → Counts = λ c. record old { hashed = c.hashed; entries = c.entries; compared = c.compared }
      in
      let of_buckets = pairs_up_to-le (has_equal_bucket patterns haystack) query from found.end last found after
      (omega arith) (omega arith) in
      let of_sums = pairs_up_to-le (has_equal_sum patterns haystack) query from found.end last found after (omega arith)
      (omega arith) in
      record {
        hashed = omega arith;
        entries = omega (arith, entries, of_buckets);
        compared = omega (arith, compared, of_sums);
        counts_on = record {
          hashed = omega arith;
          entries = omega arith;
          compared = omega arith;
          others = is
              ∙ ap others (sym is);
        };
      }

  spends_none : NothingOccurs patterns false haystack (rest_from haystack from)
      → new ≡ counts_after old query haystack (rest_from haystack from) None
      → SpendsAtMost query haystack from (length haystack) old new
  spends_none nothing is =
      let m = minimum_len_of patterns in
      let some = minimum_len_of_some patterns (none_empty patterns false haystack from within nothing) in
      let n = length haystack in
      let hashed : new.hashed ≡ old.hashed + cond (ltb (n - from) m) 0 (n - from) = ap (λ (c : Counts). c.hashed) is in
      let entries : new.entries ≡ old.entries + pairs_between (has_equal_bucket patterns haystack)
      (length patterns) from last = ap
      (λ (c : Counts). c.entries) is in
      let compared : new.compared ≡ old.compared + pairs_between (has_equal_sum patterns haystack)
      (length patterns) from last = ap
      (λ (c : Counts). c.compared) is in
      let others : Counts → Counts = λ c. record old { hashed = c.hashed; entries = c.entries; compared = c.compared }
      in
      record {
        hashed = omega (arith, hashed_at_most (n - from) m);
        entries = omega (
          arith,
          entries,
          pairs_between-none (has_equal_bucket patterns haystack)
              (length patterns) n last (omega arith),
        );
        compared = omega (
          arith,
          compared,
          pairs_between-none (has_equal_sum patterns haystack) (length patterns) n last
              (omega arith),
        );
        counts_on = record {
          hashed = omega arith;
          entries = omega arith;
          compared = omega arith;
          others = is
              ∙ ap others (sym is);
        };
      }

-- what one step of an iteration counts
pub next_spends : (old new : FindIterValue) (answer : Option MatchValue) → old.at ≤ length old.haystack
    → FindsNext old answer new → SpendsAtMost old.query old.haystack old.at new.at old.counts new.counts
next_spends old new None within nothing =
    let there : FindIterValue = after_answer old None in
    let spends = spends_none old.query old.haystack old.at old.counts there.counts within nothing.leftmost refl in
    subst (λ (f : FindIterValue). SpendsAtMost old.query old.haystack old.at f.at old.counts f.counts)
    (sym nothing.goes_on) spends
next_spends old new (Some found) within finds =
    let there : FindIterValue = after_answer old (Some found) in
    let spends = spends_some old.query old.haystack old.at old.counts there.counts within found finds.not_empty
    finds.leftmost refl in
    subst (λ (f : FindIterValue). SpendsAtMost old.query old.haystack old.at f.at old.counts f.counts)
    (sym finds.goes_on) spends

pub spends_nothing : (query : Query) (haystack : List ℕ) (at : ℕ) (old : Counts)
    → SpendsAtMost query haystack at at old old
spends_nothing query haystack at old = record {
  hashed = omega arith;
  entries = omega arith;
  compared = omega arith;
  counts_on = record { hashed = omega arith; entries = omega arith; compared = omega arith; others = refl };
}

pub spends_both : (query : Query) (haystack : List ℕ) (a b c : ℕ) (old mid new : Counts)
    → SpendsAtMost query haystack a b old mid → SpendsAtMost query haystack b c mid new
    → SpendsAtMost query haystack a c old new
spends_both query haystack a b c old mid new first second =
    let others : Counts → Counts = λ t. record t { hashed = new.hashed; entries = new.entries; compared = new.compared }
    in
    record {
      hashed = omega (arith, first.hashed, second.hashed);
      entries = omega (arith, first.entries, second.entries);
      compared = omega (arith, first.compared, second.compared);
      counts_on = record {
        hashed = omega (arith, first.counts_on.hashed, second.counts_on.hashed);
        entries = omega (arith, first.counts_on.entries, second.counts_on.entries);
        compared = omega (arith, first.counts_on.compared, second.counts_on.compared);
        others = second.counts_on.others ∙ ap others first.counts_on.others;
      };
    }

-- the bounds of a whole run
pub spends_within : (query : Query) (haystack : List ℕ) (to : ℕ) (old new : Counts)
    → SpendsAtMost query haystack 0 to old new → SpendsWithin query haystack old new
spends_within query haystack to old new s = record {
  hashed = omega (arith, s.hashed);
  entries = omega (arith, s.entries);
  compared = omega (arith, s.compared);
  counts_on = s.counts_on;
}

pub spends_found : (query : Query) (haystack : List ℕ) (span : Span) (old mid new : Counts) (found : MatchValue)
    → span.end ≡ length haystack → span.start ≤ length haystack → found.start < found.end
    → SpendsAtMost query haystack 0 span.start old mid → IsLeftmostMatch query false haystack span found
    → new ≡ counts_after mid query haystack span (Some found) → SpendsAtMost query haystack 0 found.end old new
spends_found query haystack span old mid new found ends within not_empty so_far leftmost is =
    let span_is = rest_is haystack span ends in
    spends_both query haystack 0 span.start found.end old mid new so_far
    (spends_some query haystack span.start mid new within found not_empty
    (subst (λ (s : Span). IsLeftmostMatch query false haystack s found) span_is leftmost)
    (subst (λ (s : Span). new ≡ counts_after mid query haystack s (Some found)) span_is is))

pub spends_last : (query : Query) (haystack : List ℕ) (span : Span) (old mid new : Counts) → span.end ≡ length haystack
    → span.start ≤ length haystack
    → SpendsAtMost query haystack 0 span.start old mid → NothingOccurs query.patterns false haystack span
    → new ≡ counts_after mid query haystack span None → SpendsAtMost query haystack 0 (length haystack) old new
spends_last query haystack span old mid new ends within so_far nothing is =
    let span_is = rest_is haystack span ends in
    spends_both query haystack 0 span.start (length haystack) old mid new so_far
    (spends_none query haystack span.start mid new within
    (subst (λ (s : Span). NothingOccurs query.patterns false haystack s) span_is nothing)
    (subst (λ (s : Span). new ≡ counts_after mid query haystack s None) span_is is))

-- where a match ends
pub ends_within : (query : Query) (haystack : List ℕ) (span : Span) (found : MatchValue) → span.end ≡ length haystack
    → IsLeftmostMatch query false haystack span found → found.end ≤ length haystack
ends_within query haystack span found ends leftmost =
    let whole = leftmost.whole in
    let fits = leftmost.occurs.before_end in
    omega arith
