-- The sum of a window, byte by byte.
-- For the law `sum_is_by_index`.
use Rattle.std.proofs.Common.{◌≡◌, ℕ, zero, suc, ◌+◌, ◌-◌, ◌*◌, ◌^◌, List, [], ◌∷◌, length, map, get_or, sum, refl, sym}
use Rattle.std.proofs.Common.{ap, ◌∙◌, arith}
use Rattle.std.specs.List.{sum_by, range_with_len}
use Rattle.std.proofs.lemmas.List.Sums.{sum_by-cons, sum-map}
use Rattle.literal_packed.specs.Sum.{weighted}
use Rattle.literal_packed.proofs.lemmas.CutHaystack.{sum_by-same}

-- a sum over numbers that all are one more
shifted : (f : ℕ → ℕ) (a n : ℕ) → sum_by f (range_with_len (a + 1) n) ≡ sum_by (λ k. f (k + 1)) (range_with_len a n)
shifted f a zero = refl
shifted f a (suc n) =
    sum_by-cons f (a + 1) (range_with_len (a + 1 + 1) n)
    ∙ (ap (λ m. f (a + 1) + m) (shifted f (a + 1) n) ∙ sym (sum_by-cons (λ k. f (k + 1)) a (range_with_len (a + 1) n)))

abbrev term : List ℕ → ℕ → ℕ
term w k = get_or w k 0 * 2 ^ (length w - 1 - k)

term_next : (b : ℕ) (w : List ℕ) (k : ℕ) → term w k ≡ term (b ∷ w) (k + 1)
term_next b w k =
    let up : suc k ≡ k + 1 = omega arith in
    let place : length w - 1 - k ≡ suc (length w) - 1 - (k + 1) = omega arith in
    ap (λ p. get_or w k 0 * 2 ^ p) place ∙ ap (λ i. get_or (b ∷ w) i 0 * 2 ^ (suc (length w) - 1 - (k + 1))) up

pub weighted_by_index : (w : List ℕ) → weighted w ≡ sum (map (term w) (range_with_len 0 (length w)))
weighted_by_index [] = refl
weighted_by_index (b ∷ w) =
    let n = length w in
    let first : b * 2 ^ n ≡ term (b ∷ w) 0 = ap (λ k. b * 2 ^ k) (omega arith) in
    let each : sum_by (term w) (range_with_len 0 n) ≡ sum_by (λ k. term (b ∷ w) (k + 1)) (range_with_len 0 n) =
    sum_by-same _ _ (range_with_len 0 n) (λ i d h. term_next b w (get_or (range_with_len 0 n) i d)) in
    let rest : weighted w ≡ sum_by (term w) (range_with_len 0 n) = weighted_by_index w
    ∙ sum-map (term w) (range_with_len 0 n) in
    ap (λ m. m + weighted w) first
    ∙ (ap (λ m. term (b ∷ w) 0 + m) (rest ∙ (each ∙ sym (shifted (term (b ∷ w)) 0 n)))
    ∙ (sym (sum_by-cons (term (b ∷ w)) 0 (range_with_len 1 n))
    ∙ sym (sum-map (term (b ∷ w)) (range_with_len 0 (suc n)))))
