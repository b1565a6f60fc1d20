-- Bits and the numbers that have them.
-- For the laws on bits.
use Rattle.std.proofs.Common.{◌≡◌, ℕ, ℤ, pos, neg_ℤ, ◌≤ℤ◌, ◌<ℤ◌, ◌<◌, ◌^◌, ◌-◌, ◌+◌, suc, ap, ◌∙◌, arith}
use Rattle.std.proofs.Math.Nat.{two-pow-succ}
use Rattle.std.proofs.lemmas.Int.{ints}
use Rattle.literal_ids.specs.Bits.{bits_of, number_of}

-- twice the half of 2^k
half_twice : (k : ℕ) → 0 < k → 2 ^ k ≡ 2 ^ (k - 1) + 2 ^ (k - 1)
half_twice k some =
    let one_more : k ≡ suc (k - 1) = omega arith in
    ap (λ i. 2 ^ i) one_more ∙ two-pow-succ (k - 1)

pub number_of-bits_of : (k : ℕ) (n : ℤ) → 0 < k → neg_ℤ (pos (2 ^ (k - 1))) ≤ℤ n → n <ℤ pos (2 ^ (k - 1))
    → number_of k (bits_of k n) ≡ n
number_of-bits_of k n some low high =
    let twice = half_twice k some in
    grind (arith, ints)

pub bits_of-number_of : (k m : ℕ) → 0 < k → m < 2 ^ k → bits_of k (number_of k (pos m)) ≡ pos m
bits_of-number_of k m some low =
    let twice = half_twice k some in
    grind (arith, ints)
