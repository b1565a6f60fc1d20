-- The least number whose power of two is at least another number.
-- For `ByteClasses::stride2`.
use Rattle.std.proofs.Common.{◌≡◌, ℕ, zero, suc, ◌*◌, ◌/◌, ◌^◌, ◌<◌, ◌≤◌, List, max, subst, pow-suc, pow_mono}
use Rattle.std.proofs.Common.{lt_of_not-le, arith}
use mathlib.Core.Logic.{dite}
use native.Mathlib.Decide.{dec_le}
use Rattle.std.specs.Int.{IsPowerOfTwo}
use Rattle.literal_base.specs.Classes.{alphabet_len_of, IsStride2}

-- greater powers have greater exponents
exponent-le : (i j : ℕ) → 2 ^ i < 2 * 2 ^ j → i ≤ j
exponent-le i j below = dite (dec_le i j) (λ y. y) (λ not.
    let more : 2 ^ suc j ≤ 2 ^ i = pow_mono (lt_of_not-le not) in
    let twice : 2 ^ suc j ≡ 2 ^ j * 2 = pow-suc 2 j in
    absurd (omega arith))

lt_exponent : (i j : ℕ) → 2 ^ i < 2 ^ j → i < j
lt_exponent i j below = dite (dec_le (suc i) j) (λ y. y) (λ not.
    let more : 2 ^ j ≤ 2 ^ i = pow_mono (omega arith) in
    absurd (omega arith))

least_exponent : (n k j : ℕ) → 2 ^ k / 2 < max 1 n → n ≤ 2 ^ j → k ≤ j
least_exponent n zero j half room = omega arith
least_exponent n (suc k) j half room =
    let twice : 2 ^ suc k ≡ 2 ^ k * 2 = pow-suc 2 k in
    let some : 1 ≤ 2 ^ k = pow_mono {i = 0} {j = k} (omega arith) in
    let below : 2 ^ k < 2 ^ j = omega arith in
    lt_exponent k j below

-- what stands below the next power is at least the power itself
pub power-IsStride2 : (classes : List ℕ) (p r : ℕ) → IsPowerOfTwo p → alphabet_len_of classes ≤ p
    → p / 2 < max 1 (alphabet_len_of classes) → 2 ^ r ≤ p → p < 2 * 2 ^ r → IsStride2 classes r
power-IsStride2 classes p r (k, is) room half low high =
    let up : k ≤ r = exponent-le k r (subst (λ x. x < 2 * 2 ^ r) is high) in
    let grows : 2 ^ k ≤ 2 ^ r = pow_mono up in
    let some : 1 ≤ 2 ^ k = pow_mono {i = 0} {j = k} (omega arith) in
    let down : r ≤ k = exponent-le r k (omega arith) in
    let same : k ≡ r = omega arith in
    record {
      enough = omega arith;
      least = λ j fits. subst (λ e. e ≤ j) same
          (least_exponent (alphabet_len_of classes) k j
          (subst (λ x. x / 2 < max 1 (alphabet_len_of classes)) is half) fits);
    }
