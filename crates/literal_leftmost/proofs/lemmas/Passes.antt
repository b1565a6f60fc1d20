-- The most bytes that lists look up.
use Rattle.std.proofs.Common.{◌≡◌, ◌⊎◌, ℕ, ◌+◌, ◌-◌, ◌*◌, ◌/◌, ◌<◌, ◌≤◌, ◌∙◌, ap, arith, inl, inr, min}
use Rattle.std.proofs.Math.Nat.{add-mul, mul-add, mul-le-mul_left}
use Rattle.literal_leftmost.specs.Inside.Trail.{paid_by}
use Rattle.literal_leftmost.specs.SearchValue.{most_scanned}

-- trails, and marks of each offset
pub paid_and_marked : (longest bytes : ℕ) → paid_by longest bytes + bytes ≡ most_scanned longest bytes
unfolding paid_by most_scanned
paid_and_marked longest bytes =
    let n = longest / 262000 in
    omega (arith, add-mul 2 n bytes, add-mul 3 n bytes)

-- three times the bytes
pub thrice : (longest bytes : ℕ) → 3 * bytes ≤ most_scanned longest bytes
unfolding most_scanned
thrice longest bytes = omega (arith, add-mul 3 (longest / 262000) bytes)

-- it is three times the bytes if no pattern is as long
pub just_thrice : (longest bytes : ℕ) → longest < 262000 → most_scanned longest bytes ≡ 3 * bytes
unfolding most_scanned
just_thrice longest bytes short =
    let none : longest / 262000 ≡ 0 = omega (arith, short) in
    ap (λ n. (3 + n) * bytes) none

-- more bytes
pub paid_on : (longest from to : ℕ) → from ≤ to → paid_by longest from + 2 * (to - from) ≤ paid_by longest to
unfolding paid_by
paid_on longest from to further =
    let n = longest / 262000 in
    let more : n * from ≤ n * to = mul-le-mul_left n further in
    omega (arith, add-mul 2 n from, add-mul 2 n to, more)

-- the bytes after an offset
pub paid_from : (longest start to : ℕ) → start ≤ to
    → paid_by longest to ≡ paid_by longest start + paid_by longest (to - start)
unfolding paid_by
paid_from longest start to after =
    let whole : to ≡ start + (to - start) = omega arith in
    ap (λ n. (2 + longest / 262000) * n) whole ∙ mul-add (2 + longest / 262000) start (to - start)

-- a walk through a block, and through the bytes after it that the longest pattern may have
pub block_paid : (longest len : ℕ) → (longest + 19 ≤ len) ⊎ (262144 ≤ len)
    → len + (longest - 1) + 19 ≤ paid_by longest len
unfolding paid_by
block_paid longest len (inl long) = omega (arith, add-mul 2 (longest / 262000) len)
block_paid longest len (inr most) =
    let n = longest / 262000 in
    let each : n * 262144 ≤ n * len = mul-le-mul_left n most in
    omega (arith, add-mul 2 n len, each)

-- a block that one walk goes through, and the bytes after it
pub walk_paid : (longest at end upto t0 t1 : ℕ) → at ≤ end → end ≤ upto
    → (end ≡ upto) ⊎ ((at + longest + 19 ≤ end) ⊎ (at + 262144 ≤ end))
    → t1 + at ≤ t0 + min (end + (longest - 1)) upto
    → t1 + min 19 (upto - at) + paid_by longest at ≤ t0 + paid_by longest end
walk_paid longest at end upto t0 t1 after inside (inl ended) walk =
    omega (arith, after, ended, walk, paid_on longest at end after)
walk_paid longest at end upto t0 t1 after inside (inr long) walk =
    let enough : (longest + 19 ≤ end - at) ⊎ (262144 ≤ end - at) = elim long [
      | inl all ↦ inl (omega (arith, all))
      | inr most ↦ inr (omega (arith, most))
    ] in
    omega (arith, after, walk, paid_from longest at end after, block_paid longest (end - at) enough)

-- a scan up to a block, a trail of it, and marks of a part of it
pub block_scanned : (longest from at end upto known owed t0 t1 t2 t3 : ℕ) → from ≤ at → owed ≤ 19
    → t1 + 3 * from ≤ t0 + 3 * at + min owed (upto - at)
    → t2 + min 19 (upto - at) + paid_by longest at ≤ t1 + paid_by longest end → t3 + at ≤ t2 + known
    → t3 + paid_by longest from + from ≤ t0 + paid_by longest end + known
block_scanned longest from at end upto known owed t0 t1 t2 t3 passed few scan trail marks =
    omega (arith, passed, few, scan, trail, marks, paid_on longest from at passed)
