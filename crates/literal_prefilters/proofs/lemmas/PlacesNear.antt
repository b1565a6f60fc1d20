-- How many places are near a byte of a table, up to a place that is tried.
-- For the search by a table.
use Rattle.std.proofs.Common.{◌≡◌, ℕ, ◌+◌, ◌-◌, ◌<◌, ◌≤◌, zero, suc, cond, Bool, true, false, List, length, slice_index}
use Rattle.std.proofs.Common.{Option, count_by, nat_le, option_map, unwrap_or, refl, sym, ap, ◌∙◌, arith}
use Rattle.std.specs.List.{range_with_len}
use Rattle.std.proofs.lemmas.Bool.{le-leb, lt-leb}
use Rattle.std.proofs.lemmas.List.{map-id}
use Rattle.std.proofs.lemmas.List.FromFn.{sum_by-map-range_with_len_more}
use Rattle.literal_base.specs.declared.search.Span.{Span}
use Rattle.literal_base.specs.Occurs.{IsValidSpan}
use Rattle.literal_prefilters.specs.Table.{distance_of, step_back}
use Rattle.literal_prefilters.specs.Reached.{is_within_distance, is_reached, reached_count}
use Rattle.literal_base.specs.Occurs.{rest_from}
use Rattle.literal_prefilters.specs.Table.{IsFirst}
use Rattle.literal_prefilters.proofs.lemmas.Callers.{IsFree, first_is, first_none}

count_more : (p : ℕ → Bool) (start n : ℕ) → count_by p (range_with_len start (n + 1)) ≡ count_by p
    (range_with_len start n) + cond (p (start + n)) 1 0
count_more p start n =
    let m = sum_by-map-range_with_len_more (λ x. cond (p x) 1 0) (λ (x : ℕ). x) start n (start + n) refl in
    sym (ap (count_by p) (map-id (range_with_len start (n + 1))))
    ∙ (m ∙ ap (λ xs. count_by p xs + cond (p (start + n)) 1 0) (map-id (range_with_len start n)))

count_more_no : (p : ℕ → Bool) (start n : ℕ) → p (start + n) ≡ false
    → count_by p (range_with_len start (n + 1)) ≡ count_by p (range_with_len start n)
count_more_no p start n e =
    let last : cond {A = ℕ} (p (start + n)) 1 0 ≡ 0 = ap (λ t. cond {A = ℕ} t 1 0) e in
    omega (arith, count_more p start n)

count_more_yes : (p : ℕ → Bool) (start n : ℕ) → p (start + n) ≡ true
    → count_by p (range_with_len start (n + 1)) ≡ count_by p (range_with_len start n) + 1
count_more_yes p start n e =
    let last : cond {A = ℕ} (p (start + n)) 1 0 ≡ 1 = ap (λ t. cond {A = ℕ} t 1 0) e in
    omega (arith, count_more p start n)

-- no place more passes
count_skipped : (p : ℕ → Bool) (start n d : ℕ) → ((k : ℕ) → n ≤ k → k < n + d → p (start + k) ≡ false)
    → count_by p (range_with_len start (n + d)) ≡ count_by p (range_with_len start n)
count_skipped p start n zero none =
    let e : n + 0 ≡ n = omega arith in ap (λ m. count_by p (range_with_len start m)) e
count_skipped p start n (suc d) none =
    let e : n + suc d ≡ (n + d) + 1 = omega arith in
    ap (λ m. count_by p (range_with_len start m)) e
    ∙ (count_more_no p start (n + d) (none (n + d) (omega arith) (omega arith))
    ∙ count_skipped p start n d (λ k from below. none k from (omega arith)))

module _ (table : List (Option ℕ)) (haystack : List ℕ) (span : Span) (valid : IsValidSpan haystack span) where
  abbrev rest : ℕ → Span
  rest at = record { start = at; end = span.end }

  abbrev distance : ℕ → ℕ
  distance place = unwrap_or (distance_of table (slice_index haystack place)) 0

  abbrev near : ℕ → Bool
  near = is_reached table haystack span.end

  pub valid_rest : (at : ℕ) → at ≤ span.end → IsValidSpan haystack (rest at)
  valid_rest at below = record {
    ordered = below;
    in_haystack = valid.in_haystack;
  }

  pub first_later : (at place k : ℕ) → IsFirst table haystack (rest at) place → at ≤ k → k ≤ place
      → IsFirst table haystack (rest k) place
  first_later at place k f from below = record {
    after_start = below;
    before_end = f.before_end;
    here = f.here;
    none_before = λ j after before. f.none_before j (omega arith) before;
  }

  near_at : (place k : ℕ) → IsFirst table haystack (rest k) place → near k ≡ nat_le place (k + distance place)
  near_at place k f =
      ap (λ o. unwrap_or (option_map (is_within_distance table haystack k) o) false)
      (first_is table haystack (rest k) (valid_rest k (omega (arith, f.after_start, f.before_end))) place f)

  far_at : (k : ℕ) → k ≤ span.end → IsFree table haystack k span.end → near k ≡ false
  far_at k below free =
      ap (λ o. unwrap_or (option_map (is_within_distance table haystack k) o) false)
      (first_none table haystack (rest k) (valid_rest k below) free)

  -- between two places none is near
  skipped : (at to : ℕ) → span.start ≤ at → at ≤ to → ((k : ℕ) → at ≤ k → k < to → near k ≡ false)
      → reached_count table haystack span to ≡ reached_count table haystack span at
  skipped at to after below none =
      let e : to - span.start ≡ (at - span.start) + (to - at) = omega arith in
      ap (λ n. count_by near (range_with_len span.start n)) e
      ∙ count_skipped near span.start (at - span.start) (to - at)
      (λ k from before. none (span.start + k) (omega arith) (omega arith))

  -- before the place that is tried none more is near
  pub reached_count-before : (at place : ℕ) → span.start ≤ at → IsFirst table haystack (rest at) place
      → reached_count table haystack span (step_back table haystack at place) ≡ reached_count table haystack span at
  reached_count-before at place after f =
      let from = f.after_start in
      skipped at (step_back table haystack at place) after (omega arith)
      (λ k low high. near_at place k (first_later at place k f low (omega arith))
      ∙ lt-leb place (k + distance place) (omega arith))

  -- of the places up to the one that is tried, that one alone is near
  pub reached_count-tried : (at place : ℕ) → span.start ≤ at → IsFirst table haystack (rest at) place
      → reached_count table haystack span (step_back table haystack at place + 1)
      ≡ reached_count table haystack span at + 1
  reached_count-tried at place after f =
      let s = step_back table haystack at place in
      let from = f.after_start in
      let e : s + 1 - span.start ≡ (s - span.start) + 1 = omega arith in
      let same : span.start + (s - span.start) ≡ s = omega arith in
      let here = near_at place s (first_later at place s f (omega arith) (omega arith))
      ∙ le-leb place (s + distance place) (omega arith) in
      ap (λ n. count_by near (range_with_len span.start n)) e
      ∙ (count_more_yes near span.start (s - span.start) (ap near same ∙ here)
      ∙ ap (λ n. n + 1) (reached_count-before at place after f))

  pub reached_count-free : (at : ℕ) → span.start ≤ at → at ≤ span.end → IsFree table haystack at span.end
      → reached_count table haystack span span.end ≡ reached_count table haystack span at
  reached_count-free at after below free =
      skipped at span.end after below (λ k low high. far_at k (omega arith)
      (record { none = λ j from before. free.none j (omega arith) before }))

count_joined : (p : ℕ → Bool) (start n m : ℕ)
    → count_by p (range_with_len start (n + m)) ≡ count_by p (range_with_len start n) + count_by p
    (range_with_len (start + n) m)
count_joined p start n zero =
    let e : n + 0 ≡ n = omega arith in
    ap (λ m. count_by p (range_with_len start m)) e ∙ (omega arith)
count_joined p start n (suc m) =
    let e : n + suc m ≡ (n + m) + 1 = omega arith in
    let f : suc m ≡ m + 1 = omega arith in
    let same : start + (n + m) ≡ (start + n) + m = omega arith in
    let left = ap (λ k. count_by p (range_with_len start k)) e ∙ count_more p start (n + m) in
    let right = ap (λ k. count_by p (range_with_len (start + n) k)) f ∙ count_more p (start + n) m in
    let last : cond {A = ℕ} (p (start + (n + m))) 1 0 ≡ cond {A = ℕ} (p ((start + n) + m)) 1 0 = ap
    (λ k. cond {A = ℕ} (p k) 1 0) same in
    omega (arith, left, right, count_joined p start n m)

-- the near places of the haystack before a later place, from those before an earlier one
pub reached_count-joined : (table : List (Option ℕ)) (haystack : List ℕ) (a b : ℕ) → a ≤ b
    → reached_count table haystack (rest_from haystack 0) b ≡ reached_count table haystack (rest_from haystack 0) a +
    reached_count table haystack (rest_from haystack a) b
reached_count-joined table haystack a b below =
    let near = is_reached table haystack (length haystack) in
    let e : b - 0 ≡ (a - 0) + (b - a) = omega arith in
    let f : 0 + (a - 0) ≡ a = omega arith in
    ap (λ n. count_by near (range_with_len 0 n)) e
    ∙ (count_joined near 0 (a - 0) (b - a)
    ∙ ap (λ s. count_by near (range_with_len 0 (a - 0)) + count_by near (range_with_len s (b - a))) f)
