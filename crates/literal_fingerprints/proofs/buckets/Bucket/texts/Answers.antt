use Rattle.std.proofs.Common.{◌*◌, ◌≤◌, arith, ℕ}
use Rattle.std.proofs.Math.Nat.{mul-le-mul}
use Rattle.literal_fingerprints.proofs.buckets.Bucket.texts.Goals as goal

four : (a b c d : ℕ) → a ≤ 319 → b ≤ 319 → c ≤ 319 → d ≤ 319 → a * b * (c * d) ≤ 10355301121
four a b c d a_fits b_fits c_fits d_fits =
    mul-le-mul {n₂ = 101761} {m₂ = 101761} (mul-le-mul {n₂ = 319} {m₂ = 319} a_fits b_fits)
    (mul-le-mul {n₂ = 319} {m₂ = 319} c_fits d_fits)

pub returns-clause-bound : goal.returns-clause-bound
returns-clause-bound c =
    let product = four c.min.result c.min-2.result c.min-3.result c.min-4.result (omega arith) (omega arith)
    (omega arith) (omega arith) in
    omega (arith, product)
