-- The patterns and their order, one pattern more.
-- For `Patterns` and its iterator.
use Rattle.std.proofs.Common.{◌≡◌, ℕ, ◌≤◌, ◌*◌, ◌+◌, ◌-◌, ◌^◌, ◌<◌, List, [], ◌∷◌, ◌++◌, length, drop, min, get_or}
use Rattle.std.proofs.Common.{refl, sym, ap, ◌∙◌, subst, arith}
use Rattle.std.specs.List.{All, AllPairs, range_with_len}
use Rattle.std.specs.List.Sorted.{IsPermutation}
use Rattle.std.proofs.lemmas.List.{drop_more, get_or-map, length_push, length-map}
use Rattle.std.proofs.lemmas.List.Elements.{All-push}
use Rattle.std.proofs.lemmas.List.FromFn.{get_or-range_with_len, length-range_with_len}
use Rattle.std.proofs.lemmas.List.Sorted.{All-permutation, IsPermutation-append_left, IsPermutation-trans}
use Rattle.std.proofs.lemmas.List.Sorted.{length_permutation}
use Rattle.std.proofs.lemmas.List.Sums.{fold_push, sum_by_push}
use Rattle.std.proofs.lemmas.List.Quantifiers.{all_pairs_push}
use Rattle.literal_base.specs.declared.packed.MatchKind.TheVariants.{LeftmostFirst}
use Rattle.literal_base.specs.Occurs.{pattern_at}
use Rattle.literal_packed.proofs.lemmas.Lists.{range-push}
use Rattle.literal_packed.specs.declared.pattern.Patterns.TheInside.{Inside}
use Rattle.literal_packed.specs.PatternsValue.{PatternsValue, IsWellFormed, IsInOrder, with_pattern, in_order}
use Rattle.literal_packed.specs.PatternsValue.{minimum_len_of, total_len}
use Rattle.literal_packed.specs.Inside.Patterns.{patterns_value, IsConsistent}

-- each of the first n numbers is below n
All-range : (n : ℕ) → All (λ i. i < n) (range_with_len 0 n)
All-range n k d h =
    let in_range : k < n = omega (arith, length-range_with_len 0 n) in
    omega (arith, get_or-range_with_len 0 n k d in_range)

-- each number in the order is that of a pattern
pub order-below : (c : PatternsValue) → IsWellFormed c → All (λ i. i < length c.patterns) c.order
order-below c w =
    All-permutation (λ i. i < length c.patterns) (range_with_len 0 (length c.patterns)) c.order w.once
    (All-range (length c.patterns))

-- as many numbers stand in the order as there are patterns
pub order_len : (a : Inside) (c : PatternsValue) → patterns_value a ≡ c → IsConsistent a
    → length a.order.items ≡ length c.patterns
order_len a c is kept =
    let n = length (patterns_value a).patterns in
    subst (λ (p : PatternsValue). length a.order.items ≡ length p.patterns) is
    (length_permutation (range_with_len 0 n) a.order.items kept.well_formed.once ∙ length-range_with_len 0 n)

-- the number at a place of the order is that of a pattern
pub order_below_at : (c : PatternsValue) (i id : ℕ) → IsWellFormed c → i < length c.order → id ≡ get_or c.order i id
    → id < length c.patterns
order_below_at c i id w in_range is = rw is (order-below c w i id in_range)

-- what comes at a place of the order, and what comes after it
in_order-drop : (c : PatternsValue) (i id : ℕ) → i < length c.order → id ≡ get_or c.order i id
    → drop i (in_order c) ≡ (id, pattern_at c.patterns id) ∷ drop (i + 1) (in_order c)
in_order-drop c i id in_range is =
    let pair : ℕ → ℕ × List ℕ = λ i. (i, pattern_at c.patterns i) in
    let fits : i < length (in_order c) = omega (arith, length-map c.order pair) in
    drop_more (in_order c) i (pair id) fits
    ∙ ap (λ p. p ∷ drop (i + 1) (in_order c)) (get_or-map pair c.order i id (pair id) in_range ∙ ap pair (sym is))

IsWellFormed-with_pattern : (c : PatternsValue) (bytes : List ℕ) → IsWellFormed c → 0 < length bytes
    → length c.patterns < 2147483647 → IsWellFormed (with_pattern c bytes)
IsWellFormed-with_pattern c bytes w some room =
    let n = length c.patterns in
    let longer : length (c.patterns ++ bytes ∷ []) ≡ n + 1 = length_push c.patterns bytes in
    record {
      once = rw longer (rw range-push (IsPermutation-append_left (n ∷ []) _ _ w.once));
      not_empty = All-push (λ (p : List ℕ). 0 < length p) c.patterns bytes w.not_empty some;
      numbered = omega arith;
    }

-- fields that hold one pattern more are consistent
pub IsConsistent-add : (a b : Inside) (bytes : List ℕ) → IsConsistent a → 0 < length bytes
    → length (patterns_value a).patterns < 2147483647 → patterns_value b ≡ with_pattern (patterns_value a) bytes
    → b.minimum_len ≡ min a.minimum_len (length bytes) → b.total_pattern_bytes ≡ a.total_pattern_bytes + length bytes
    → length bytes < 2 ^ 64 → IsConsistent b
IsConsistent-add a b bytes h some room same shorter more fits = record {
  well_formed = rw same (IsWellFormed-with_pattern (patterns_value a) bytes h.well_formed some room);
  shortest =
      shorter
      ∙ (ap (λ n. min n (length bytes)) h.shortest
      ∙ (sym (fold_push (λ n (p : List ℕ). min n (length p)) (2 ^ 64 - 1) (patterns_value a).patterns bytes)
      ∙ ap (λ (c : PatternsValue). minimum_len_of c.patterns) (sym same)));
  total = more ∙ ap (λ n. n + length bytes) h.total ∙ sym (sum_by_push length (patterns_value a).patterns bytes)
      ∙ ap (λ (c : PatternsValue). total_len c.patterns) (sym same);
  bound = subst (λ (c : PatternsValue). b.total_pattern_bytes ≤ length c.patterns * 2 ^ 64) (sym same)
      (omega (arith, h.bound, length_push (patterns_value a).patterns bytes));
}

-- the same at fields that a caller sees as c
pub order_below_inside : (a : Inside) (c : PatternsValue) (i id : ℕ) → patterns_value a ≡ c → IsConsistent a
    → i < length a.order.items → id ≡ get_or a.order.items i id → id < length c.patterns
order_below_inside a c i id is_view h in_range is =
    subst (λ (c : PatternsValue). id < length c.patterns) is_view
    (order_below_at (patterns_value a) i id h.well_formed in_range is)

pub in_order_drop_inside : (a : Inside) (c : PatternsValue) (i id : ℕ) → patterns_value a ≡ c → i < length a.order.items
    → id ≡ get_or a.order.items i id → drop i (in_order c) ≡ (id, pattern_at c.patterns id) ∷ drop (i + 1) (in_order c)
in_order_drop_inside a c i id is_view in_range is =
    subst (λ (c : PatternsValue). drop i (in_order c) ≡ (id, pattern_at c.patterns id) ∷ drop (i + 1) (in_order c))
    is_view (in_order-drop (patterns_value a) i id in_range is)

-- the numbers in the order are those of the patterns
pub order_once : (a : Inside) (n : ℕ) → IsConsistent a → n ≡ length a.by_id.items
    → IsPermutation (range_with_len 0 n) a.order.items
order_once a n h is =
    let same : length (patterns_value a).patterns ≡ n = length-map a.by_id.items (λ v. v.items) ∙ sym is in
    subst (λ n. IsPermutation (range_with_len 0 n) a.order.items) same h.well_formed.once

-- fields with the same patterns in another order are consistent
pub IsConsistent-reorder : (a b : Inside) → IsConsistent a → b.by_id ≡ a.by_id → b.minimum_len ≡ a.minimum_len
    → b.total_pattern_bytes ≡ a.total_pattern_bytes → IsPermutation a.order.items b.order.items → IsConsistent b
IsConsistent-reorder a b h same shortest total moved =
    let patterns : (patterns_value b).patterns ≡ (patterns_value a).patterns = rw same refl in record {
      well_formed = record {
        once = rw patterns (IsPermutation-trans
            (range_with_len 0 (length (patterns_value a).patterns)) a.order.items b.order.items h.well_formed.once
            moved);
        not_empty = rw patterns h.well_formed.not_empty;
        numbered = rw patterns h.well_formed.numbered;
      };
      shortest = shortest ∙ (h.shortest ∙ ap minimum_len_of (sym patterns));
      total = total ∙ (h.total ∙ ap total_len (sym patterns));
      bound = rw patterns (rw total h.bound);
    }

-- a pattern that is added last keeps the order of adding
IsInOrder-with_pattern : (c : PatternsValue) (bytes : List ℕ) → IsWellFormed c → c.kind ≡ LeftmostFirst
    → IsInOrder c → IsInOrder (with_pattern c bytes)
IsInOrder-with_pattern c bytes w first ordered i j d before in_range =
    let n = length c.patterns in
    let rising : AllPairs ◌<◌ c.order = λ i j d before in_range. rw first at (ordered i j d before in_range) in
    let below = order-below c w in
    let more : AllPairs ◌<◌ (c.order ++ n ∷ []) = all_pairs_push ◌<◌ c.order n rising (λ k d h. below k d h) in
    rw first (more i j d before in_range)

-- the same of fields that hold one pattern more
pub IsInOrder-add : (a b : Inside) (c : PatternsValue) (bytes : List ℕ) → IsConsistent a → patterns_value a ≡ c
    → patterns_value b ≡ with_pattern (patterns_value a) bytes → c.kind ≡ LeftmostFirst → IsInOrder c
    → IsInOrder (patterns_value b)
IsInOrder-add a b c bytes h view_is same first ordered =
    subst IsInOrder (sym same)
    (IsInOrder-with_pattern (patterns_value a) bytes h.well_formed (ap (λ (c : PatternsValue). c.kind) view_is ∙ first)
    (subst IsInOrder (sym view_is) ordered))
