-- The steps of a look-up, entry by entry.
-- For `RabinKarp::try_entry` and `RabinKarp::look_up`.
use Rattle.std.proofs.Common.{refl, ◌≡◌, ◌≢◌, ℕ, ◌+◌, ◌%◌, ◌<◌, ◌≤◌, Bool, false, eqb, inl, inr, cond, ltb}
use Rattle.std.proofs.Common.{List, [], ◌∷◌, Some, length, take, drop, get_or, slice_get, sym, ap, subst, ◌∙◌}
use Rattle.std.proofs.Common.{arith, add-zero}
use Rattle.std.specs.List.{All, count_by}
use Rattle.std.proofs.Math.Seq.{take-add}
use Rattle.std.proofs.lemmas.Bool.{eq-eqb, ne_eqb, cases_lt, lt-ltb, le-ltb}
use Rattle.std.proofs.lemmas.List.{take_all, drop_all, drop_more, length-append, length-take-le}
use Rattle.std.proofs.lemmas.List.Elements.{All-append, All-cons}
use Rattle.std.proofs.lemmas.Nat.{mod_below}
use Rattle.std.proofs.lemmas.Option.{get_or_from_slice_get, slice_get_within}
use Rattle.literal_base.specs.Counts.{Counts}
use Rattle.literal_base.specs.Occurs.{pattern_at, StandsAt}
use Rattle.literal_packed.specs.PatternsValue.{query_of, PatternsValue, IsSearchable}
use Rattle.literal_packed.specs.Inside.Place.{IsBestAt, NoneStandsAt}
use Rattle.literal_packed.specs.Inside.Entries.{entry_at}
use Rattle.literal_packed.specs.Pairs.{window_sum, has_equal_sum, has_equal_bucket, pairs_at, pairs_at_up_to}
use Rattle.literal_packed.specs.RabinKarpValue.{RabinKarpValue, IsMadeFor, bucket_at, bucket_of}
use Rattle.literal_packed.proofs.lemmas.Buckets.{IsEntry, bucket_entries, other_sum, none_stands, best_stands}
use Rattle.literal_packed.proofs.lemmas.Buckets.{entries_none, compared_none, entries_some, compared_some}
use Rattle.literal_packed.proofs.lemmas.Lists.{count_by-append}
use Rattle.literal_packed.proofs.lemmas.PlaceCounts.{same_three, with_looked}

-- a look-up of the sum of the window at a place: it reads the entries of the bucket of that sum
pub record IsLookUp (c : PatternsValue) (haystack : List ℕ) (at sum : ℕ) (entries : List (ℕ × ℕ)) : Type 0 where
  pub searchable : IsSearchable c
  pub sum_is : sum ≡ window_sum c.patterns haystack at
  pub is : entries ≡ bucket_of c (sum % 64)

pub look_up_in : (c : PatternsValue) (b : RabinKarpValue) (haystack : List ℕ) (at sum : ℕ) → IsMadeFor c b
    → sum ≡ window_sum c.patterns haystack at → IsLookUp c haystack at sum (bucket_at b (sum % 64))
look_up_in c b haystack at sum made sum_is = record {
  searchable = made.searchable;
  sum_is = sum_is;
  is = made.buckets (sum % 64) (mod_below sum 64 (omega arith));
}

-- the counts after one more entry was asked for, which counts where the bucket has it
abbrev pub with_entry : Counts → List (ℕ × ℕ) → ℕ → Counts
with_entry t entries k = record t { entries = t.entries + cond (ltb k (length entries)) 1 0 }

abbrev with_comparison : Counts → Counts
with_comparison t = record t { compared = t.compared + 1 }

-- what is answered and counted where entry k of bucket n is asked for
pub record IsAsked (entries : List (ℕ × ℕ)) (n k : ℕ) (x : ℕ × ℕ) (old now : Counts) : Type 0 where
  pub entry : k < length entries → slice_get entries k ≡ Some x
  pub none : length entries ≤ k → x.0 % 64 ≢ n
  pub counted : now ≡ with_entry old entries k

pub asked_in : {n k m : ℕ} {x : ℕ × ℕ} {old now : Counts} (buckets : List (List (ℕ × ℕ))) (b : RabinKarpValue)
    → record { minimum_len = m; buckets = buckets } ≡ b → IsAsked (get_or buckets n []) n k x old now
    → IsAsked (bucket_at b n) n k x old now
asked_in {n = n} {k = k} {x = x} {old = old} {now = now} buckets b is asked =
    subst (λ (v : RabinKarpValue). IsAsked (bucket_at v n) n k x old now) is asked

-- how far the entries of a bucket go, which its holder tells
pub ended_with : (n : ℕ) {k m : ℕ} (buckets : List (List (ℕ × ℕ))) (b : RabinKarpValue)
    → record { minimum_len = m; buckets = buckets } ≡ b → length (get_or buckets n []) ≤ k
    → length (bucket_at b n) ≤ k
ended_with n {k = k} buckets b is = subst (λ (v : RabinKarpValue). length (bucket_at v n) ≤ k) is

pub few_unless_longer : (n : ℕ) → ¬ (2 < n) → n ≤ 2
few_unless_longer n not = elim (cases_lt 2 n) [ inl more ↦ absurd (not more) | inr few ↦ few ]

one_entry : (entries : List (ℕ × ℕ)) (k : ℕ) (x : ℕ × ℕ) → slice_get entries k ≡ Some x → entry_at entries k ≡ x ∷ []
one_entry entries k x is =
    ap (take 1) (drop_more entries k x (slice_get_within entries k x is)
    ∙ ap (λ y. y ∷ drop (k + 1) entries) (get_or_from_slice_get entries k x x is))

no_entry : (entries : List (ℕ × ℕ)) (k : ℕ) → length entries ≤ k → entry_at entries k ≡ []
no_entry entries k past = ap (take 1) (drop_all k entries past)

module _ {c : PatternsValue} {haystack : List ℕ} {at sum : ℕ} {entries : List (ℕ × ℕ)}
    (here : IsLookUp c haystack at sum entries) where
  abbrev Stands : ℕ × ℕ → Type 0
  Stands e = StandsAt false (pattern_at c.patterns e.1) haystack at

  abbrev has_sum : ℕ × ℕ → Bool
  has_sum e = eqb e.0 sum

  abbrev NoneOf : List (ℕ × ℕ) → Type 0
  NoneOf es = All (λ e. ¬ Stands e) es

  -- one entry that is asked for

  -- what has the sum is an entry of the bucket
  pub read_equal : (k : ℕ) (x : ℕ × ℕ) (old now : Counts) → IsAsked entries (sum % 64) k x old now → x.0 ≡ sum
      → slice_get entries k ≡ Some x
  read_equal k x old now asked equal =
      elim (cases_lt k (length entries)) [
        | inl within ↦ asked.entry within
        | inr past ↦ absurd (asked.none past (ap (λ n. n % 64) equal))
      ]

  pub entry_of_pattern : (k : ℕ) (x : ℕ × ℕ) → slice_get entries k ≡ Some x → IsEntry c x
  entry_of_pattern k x is =
      subst (IsEntry c) (get_or_from_slice_get entries k x x is)
      (subst (All (IsEntry c)) (sym here.is) (bucket_entries c here.searchable.well_formed (sum % 64)) k x
      (slice_get_within entries k x is))

  not_of_sum : (k : ℕ) (x : ℕ × ℕ) → slice_get entries k ≡ Some x → x.0 ≢ sum → ¬ Stands x
  not_of_sum k x is other =
      other_sum c here.searchable.well_formed here.searchable.in_order haystack at sum here.sum_is x
      (entry_of_pattern k x is) other

  pub none_equal : (k : ℕ) (x : ℕ × ℕ) → slice_get entries k ≡ Some x → ¬ Stands x → NoneOf (entry_at entries k)
  none_equal k x is not =
      subst NoneOf (sym (one_entry entries k x is))
      (All-cons (λ e. ¬ Stands e) x [] not (λ i d within. absurd (omega arith)))

  pub none_other : (k : ℕ) (x : ℕ × ℕ) (old now : Counts) → IsAsked entries (sum % 64) k x old now → x.0 ≢ sum
      → NoneOf (entry_at entries k)
  none_other k x old now asked other =
      elim (cases_lt k (length entries)) [
        | inl within ↦ none_equal k x (asked.entry within) (not_of_sum k x (asked.entry within) other)
        | inr past ↦ subst NoneOf (sym (no_entry entries k past)) (λ i d within. absurd (omega arith))
      ]

  -- the counts after it, if it is there, and after a comparison where it has the sum
  abbrev pub with_asked : Counts → ℕ → Counts
  with_asked t k = with_looked t (length (entry_at entries k)) (count_by has_sum (entry_at entries k))

  pub counts_equal : (k : ℕ) (x : ℕ × ℕ) (old now next : Counts) → IsAsked entries (sum % 64) k x old now → x.0 ≡ sum
      → next ≡ record now { compared = now.compared + 1 } → next ≡ with_asked old k
  counts_equal k x old now next asked equal then =
      let is = read_equal k x old now asked equal in
      let one = one_entry entries k x is in
      let some : cond (ltb k (length entries)) 1 0 ≡ 1 =
      ap (λ t. cond t 1 0) (lt-ltb _ _ (slice_get_within entries k x is)) in
      let yes : count_by has_sum (x ∷ []) ≡ 1 = ap (λ t. 0 + cond t 1 0) (eq-eqb x.0 sum equal) in
      then ∙ (ap with_comparison asked.counted ∙ same_three old _ _ _ _ _ _ refl
      (ap (λ n. old.entries + n) (some ∙ sym (ap length one)))
      (ap (λ n. old.compared + n) (sym (ap (count_by has_sum) one ∙ yes))))

  pub counts_other : (k : ℕ) (x : ℕ × ℕ) (old now : Counts) → IsAsked entries (sum % 64) k x old now → x.0 ≢ sum
      → now ≡ with_asked old k
  counts_other k x old now asked other =
      asked.counted ∙ elim (cases_lt k (length entries)) [
        | inl within ↦
            let one = one_entry entries k x (asked.entry within) in
            let some : cond (ltb k (length entries)) 1 0 ≡ 1 = ap (λ t. cond t 1 0) (lt-ltb _ _ within) in
            let no : count_by has_sum (x ∷ []) ≡ 0 = ap (λ t. 0 + cond t 1 0) (ne_eqb x.0 sum other) in
            same_three old _ _ _ _ _ _ refl (ap (λ n. old.entries + n) (some ∙ sym (ap length one)))
            (omega (arith, ap (count_by has_sum) one ∙ no))
        | inr past ↦
            let none = no_entry entries k past in
            let zero : cond (ltb k (length entries)) 1 0 ≡ 0 = ap (λ t. cond t 1 0) (le-ltb _ _ past) in
            same_three old _ _ _ _ _ _ refl (ap (λ n. old.entries + n) (zero ∙ sym (ap length none)))
            (omega (arith, ap (count_by has_sum) none))
      ]

  -- the first k entries

  -- the counts after them
  abbrev pub with_first : Counts → ℕ → Counts
  with_first t k = with_looked t (length (take k entries)) (count_by has_sum (take k entries))

  pub none_first : NoneOf (take 0 entries)
  none_first = λ i d within. absurd (omega arith)

  pub counts_first : (old : Counts) → old ≡ with_first old 0
  counts_first old = same_three old _ _ _ _ _ _ refl (sym (add-zero old.entries)) (sym (add-zero old.compared))

  pub none_more : (k : ℕ) → NoneOf (take k entries) → NoneOf (entry_at entries k) → NoneOf (take (k + 1) entries)
  none_more k before one =
      subst NoneOf (sym (take-add k 1 entries)) (All-append (λ e. ¬ Stands e) (take k entries) _ before one)

  pub counts_more : (k : ℕ) (old now next : Counts) → now ≡ with_first old k → next ≡ with_asked now k
      → next ≡ with_first old (k + 1)
  counts_more k old now next was then =
      let split = take-add k 1 entries in
      let long = ap length split ∙ length-append (take k entries) (entry_at entries k) in
      let compared = ap (count_by has_sum) split ∙ count_by-append has_sum (take k entries) (entry_at entries k) in
      then ∙ (ap (λ t. with_asked t k) was
      ∙ same_three old _ _ _ _ _ _ refl (omega (arith, long)) (omega (arith, compared)))

  -- what the look-up answers

  pub best_found : (k id : ℕ) → NoneOf (take k entries) → slice_get entries k ≡ Some (sum, id) → Stands (sum, id)
      → IsBestAt (query_of c) false haystack at id
  best_found k id none is stands =
      let found = subst (λ es. slice_get es k ≡ Some (sum, id)) here.is is in
      best_stands c here.searchable.well_formed here.searchable.in_order haystack at sum here.sum_is k (sum, id)
      (slice_get_within _ k _ found) (get_or_from_slice_get _ k (sum, id) (sum, id) found)
      (subst (λ es. NoneOf (take k es)) here.is none) stands

  pub counts_found : (k id : ℕ) (old now next : Counts) → slice_get entries k ≡ Some (sum, id)
      → now ≡ with_first old k → next ≡ with_asked now k
      → next ≡ with_looked old (pairs_at_up_to (has_equal_bucket c.patterns haystack) (query_of c) at id)
      (pairs_at_up_to (has_equal_sum c.patterns haystack) (query_of c) at id)
  counts_found k id old now next is was then =
      let found = subst (λ es. slice_get es k ≡ Some (sum, id)) here.is is in
      let within = slice_get_within _ k _ found in
      let in_place = get_or_from_slice_get _ k (sum, id) (sum, id) found in
      let one = one_entry entries k (sum, id) is in
      let yes : count_by has_sum ((sum, id) ∷ []) ≡ 1 = ap (λ t. 0 + cond t 1 0) (eq-eqb sum sum refl) in
      let front : take k (bucket_of c (sum % 64)) ≡ take k entries = ap (take k) (sym here.is) in
      let long : length (take k entries) ≡ k =
      length-take-le k entries (omega (arith, slice_get_within entries k _ is)) in
      let read = entries_some c here.searchable.well_formed here.searchable.in_order haystack at sum here.sum_is k
      (sum, id) within in_place in
      let compared = compared_some c here.searchable.well_formed here.searchable.in_order haystack at sum here.sum_is k
      (sum, id) within in_place refl in
      then ∙ (ap (λ t. with_asked t k) was ∙ same_three old _ _ _ _ _ _ refl
      (omega (arith, ap length one, long, read))
      (omega (arith, ap (count_by has_sum) one ∙ yes, ap (count_by has_sum) front, compared)))

  pub none_found : (k : ℕ) → length entries ≤ k → NoneOf (take k entries) → NoneStandsAt c.patterns false haystack at
  none_found k ended none =
      none_stands c here.searchable.well_formed here.searchable.in_order haystack at sum here.sum_is
      (subst NoneOf (take_all k entries ended ∙ here.is) none)

  pub counts_none : (k : ℕ) (old now : Counts) → length entries ≤ k → now ≡ with_first old k
      → now ≡ with_looked old (pairs_at (has_equal_bucket c.patterns haystack) (length c.patterns) at)
      (pairs_at (has_equal_sum c.patterns haystack) (length c.patterns) at)
  counts_none k old now ended was =
      let all = take_all k entries ended ∙ here.is in
      was ∙ same_three old _ _ _ _ _ _ refl (ap (λ m. old.entries + m) (ap length all
      ∙ entries_none c here.searchable.well_formed here.searchable.in_order haystack at sum here.sum_is))
      (ap (λ n. old.compared + n) (ap (count_by has_sum) all
      ∙ compared_none c here.searchable.well_formed here.searchable.in_order haystack at sum here.sum_is))
