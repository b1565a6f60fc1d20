-- What a push and a roll do to the sum of a window.
-- For `Rolling`.
use Rattle.std.proofs.Common.{◌≡◌, ℕ, suc, ◌+◌, ◌-◌, ◌*◌, ◌%◌, ◌^◌, ◌≤◌, List, [], ◌∷◌, ◌++◌, length, sym, ap, ◌∙◌}
use Rattle.std.proofs.Common.{arith, pow-suc, mul_assoc}
use Rattle.std.proofs.lemmas.Nat.{mul-mod_second, pow-add}
use Rattle.std.proofs.lemmas.List.{length_push}
use Rattle.literal_packed.specs.Sum.{weighted, sum_of}
use Rattle.literal_packed.specs.Inside.Rolling.{power_of}

-- one more byte on the right
weighted-push : (w : List ℕ) (b : ℕ) → weighted (w ++ b ∷ []) ≡ weighted w * 2 + b
weighted-push [] b =
    let one : b * 2 ^ 0 ≡ b = omega arith in
    omega arith
weighted-push (x ∷ w) b =
    let rest = weighted-push w b in
    let place : length (w ++ b ∷ []) ≡ suc (length w) = length_push w b ∙ omega arith in
    let power : x * 2 ^ length (w ++ b ∷ []) ≡ x * 2 ^ length w * 2 =
    ap (λ n. x * 2 ^ n) place ∙ ap (λ p. x * p) (pow-suc 2 (length w)) ∙ sym (mul_assoc x (2 ^ length w) 2) in
    omega arith

pub sum_of-push : (w : List ℕ) (b v : ℕ) → v ≡ sum_of w → ((v * 2) % 2 ^ 64 + b) % 2 ^ 64 ≡ sum_of (w ++ b ∷ [])
sum_of-push w b v is =
    let whole = weighted-push w b in
    omega arith

-- the first byte goes, and one more comes
pub sum_of-roll : (a : ℕ) (w : List ℕ) (b v p m : ℕ) → length (a ∷ w) ≡ m → p ≡ power_of m → v ≡ sum_of (a ∷ w)
    → ((v * 2) % 2 ^ 64 + (b + (2 ^ 64 - a * p % 2 ^ 64)) % 2 ^ 64) % 2 ^ 64 ≡ sum_of (w ++ b ∷ [])
sum_of-roll a w b v p m long power is =
    let twice : 2 ^ m ≡ 2 ^ length w * 2 = ap (λ n. 2 ^ n) (sym long) ∙ pow-suc 2 (length w) in
    let first : a * p % 2 ^ 64 ≡ a * 2 ^ length w * 2 % 2 ^ 64 =
    ap (λ q. a * q % 2 ^ 64) power
    ∙ (mul-mod_second a (2 ^ m) (2 ^ 64)
    ∙ ap (λ n. n % 2 ^ 64) (ap (λ q. a * q) twice ∙ sym (mul_assoc a (2 ^ length w) 2))) in
    let whole = weighted-push w b in
    omega arith

-- whatever the sum was
pub roll_of : (a b v p m : ℕ) → p ≡ power_of m
    → ((v * 2) % 2 ^ 64 + (b + (2 ^ 64 - a * p % 2 ^ 64)) % 2 ^ 64) % 2 ^ 64
    ≡ (2 * v + b + (2 ^ 64 - a * 2 ^ m % 2 ^ 64)) % 2 ^ 64
roll_of a b v p m power =
    let gone : a * p % 2 ^ 64 ≡ a * 2 ^ m % 2 ^ 64 =
    ap (λ q. a * q % 2 ^ 64) power ∙ mul-mod_second a (2 ^ m) (2 ^ 64) in
    omega (arith, gone)

-- from 64 bytes on a byte that has left counts for nothing
pub power_past : (m : ℕ) → 64 ≤ m → 0 ≡ power_of m
power_past m far =
    let split : m ≡ (m - 64) + 64 = omega arith in
    let both : 2 ^ m ≡ 2 ^ (m - 64) * 2 ^ 64 = ap (λ n. 2 ^ n) split ∙ pow-add 2 (m - 64) 64 in
    omega arith
