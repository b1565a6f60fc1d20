-- The length of the shortest pattern, and the sums of what stands at a place.
-- For `RabinKarp::new` and `walk`, and for a law.
use Rattle.std.proofs.Common.{◌≡◌, ◌⊎◌, inl, inr, ℕ, zero, suc, ◌+◌, ◌-◌, ◌^◌, ◌<◌, ◌≤◌, min, false, List, []}
use Rattle.std.proofs.Common.{◌∷◌, length, take, drop, get_or, refl, sym, ap, ◌∙◌, arith}
use Rattle.std.specs.List.{All, fold, slice_range}
use Rattle.std.proofs.lemmas.Bool.{cases_lt}
use Rattle.std.proofs.lemmas.List.{take-take}
use Rattle.std.proofs.lemmas.List.Elements.{All-head, All-tail}
use Rattle.literal_base.specs.Occurs.{NoneIsEmpty, pattern_at, StandsAt}
use Rattle.literal_packed.specs.PatternsValue.{minimum_len_of}
use Rattle.literal_packed.specs.Sum.{sum_of}
use Rattle.literal_packed.specs.Pairs.{key_of, window_sum}

abbrev least_from : ℕ → List (List ℕ) → ℕ
least_from a ps = fold (λ n bytes. min n (length bytes)) a ps

least_below : (a : ℕ) (ps : List (List ℕ)) → least_from a ps ≤ a
least_below a [] = omega arith
least_below a (p ∷ ps) = let rest = least_below (min a (length p)) ps in omega arith

least_at : (a : ℕ) (ps : List (List ℕ)) (i : ℕ) → i < length ps → least_from a ps ≤ length (get_or ps i [])
least_at a [] i h = absurd (omega arith)
least_at a (p ∷ ps) zero h = let rest = least_below (min a (length p)) ps in omega arith
least_at a (p ∷ ps) (suc i) h = least_at (min a (length p)) ps i (omega arith)

-- it is the start, or the length of one of them
least_is : (a : ℕ) (ps : List (List ℕ)) → (least_from a ps ≡ a)
    ⊎ ((i : ℕ) × i < length ps × (length (pattern_at ps i) ≡ least_from a ps))
least_is a [] = inl refl
least_is a (p ∷ ps) =
    elim (least_is (min a (length p)) ps) [
      | inr found ↦ inr (suc found.0, omega (arith, found.1), found.2)
      | inl same ↦ elim (cases_lt (length p) a) [
        | inl shorter ↦ inr (0, omega arith, omega (arith, same))
        | inr not ↦ inl (omega (arith, same))
      ]
    ]

least_some : (a : ℕ) (ps : List (List ℕ)) → 1 ≤ a → NoneIsEmpty ps → 1 ≤ least_from a ps
least_some a [] h all = h
least_some a (p ∷ ps) h all =
    let here : 0 < length p = All-head (λ (b : List ℕ). 0 < length b) p ps all in
    least_some (min a (length p)) ps (omega arith) (All-tail (λ (b : List ℕ). 0 < length b) p ps all)

-- no pattern is shorter than the shortest
pub minimum_len_of-le : (patterns : List (List ℕ)) (i : ℕ) → i < length patterns
    → minimum_len_of patterns ≤ length (pattern_at patterns i)
minimum_len_of-le patterns i h = least_at (2 ^ 64 - 1) patterns i h

pub minimum_len_of_some : (patterns : List (List ℕ)) → NoneIsEmpty patterns → 1 ≤ minimum_len_of patterns
minimum_len_of_some patterns all = least_some (2 ^ 64 - 1) patterns (omega arith) all

-- some pattern has just that length
pub minimum_len_of-reached : (patterns : List (List ℕ)) → 0 < length patterns
    → All (λ bytes. length bytes < 2 ^ 64) patterns
    → (i : ℕ) × i < length patterns × (length (pattern_at patterns i) ≡ minimum_len_of patterns)
minimum_len_of-reached [] some fit = elim some [ ]
minimum_len_of-reached (p ∷ ps) some fit =
    elim (least_is (2 ^ 64 - 1) (p ∷ ps)) [
      | inr found ↦ found
      | inl same ↦
          let first : length p < 2 ^ 64 = All-head (λ (b : List ℕ). length b < 2 ^ 64) p ps fit in
          (0, omega arith, omega (arith, same, first, minimum_len_of-le (p ∷ ps) 0 (omega arith)))
    ]

-- a front of a part
front_of : (h : List ℕ) (at m n : ℕ) → m ≤ n → take m (slice_range h at (at + n)) ≡ slice_range h at (at + m)
front_of h at m n le =
    let long : at + n - at ≡ n = omega arith in
    let short : at + m - at ≡ m = omega arith in
    ap (λ k. take m (take k (drop at h))) long
    ∙ (take-take m n (drop at h) le ∙ ap (λ k. take k (drop at h)) (sym short))

-- where a pattern stands, the sums are equal
pub stands_key : (patterns : List (List ℕ)) (haystack : List ℕ) (at i : ℕ) → i < length patterns
    → StandsAt false (pattern_at patterns i) haystack at → key_of patterns i ≡ window_sum patterns haystack at
stands_key patterns haystack at i is_pattern stands =
    let m = minimum_len_of patterns in
    let n = length (pattern_at patterns i) in
    let front : take m (pattern_at patterns i) ≡ slice_range haystack at (at + m) =
    ap (λ xs. take m xs) (sym stands.same) ∙ front_of haystack at m n (minimum_len_of-le patterns i is_pattern) in
    ap sum_of front
