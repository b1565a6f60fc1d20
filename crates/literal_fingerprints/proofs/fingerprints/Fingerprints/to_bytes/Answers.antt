use Rattle.std.proofs.Common.{◌≡◌, ℕ, ◌+◌, ◌-◌, ◌*◌, ◌/◌, ◌%◌, ◌<◌, ◌∙◌, List, [], ap, arith, drop, get_or}
use Rattle.std.proofs.Common.{length, subst}
use Rattle.std.proofs.lemmas.List.{ext_get_or, get_or-drop, get_or-take, length-drop, length-take}
use Rattle.std.specs.List.{slice_range}
use Rattle.literal_fingerprints.specs.FingerprintsValue.{FingerprintsValue, HalfTable}
use Rattle.literal_fingerprints.specs.Inside.Nibbles.{halves_of}
use Rattle.literal_fingerprints.proofs.fingerprints.Fingerprints.to_bytes.Goals as goal

module _ (halves : List (List ℕ)) (bytes : List ℕ) (long : length bytes ≡ 128)
    (sizes : (k : ℕ) → k < 128 → length (get_or halves (k / 16) []) ≡ 16)
    (each : (k : ℕ) → k < 128 → get_or bytes k 0 ≡ get_or (get_or halves (k / 16) []) (k % 16) 0)
  where
    -- one of the halves stands in its 16 bytes
    half_at : (n : ℕ) → n < 8 → slice_range bytes (16 * n) (16 * n + 16) ≡ get_or halves n []
    half_at n few =
        let same : 16 * n / 16 ≡ n = omega arith in
        let size : length (get_or halves n []) ≡ 16 =
        subst (λ (j : ℕ). length (get_or halves j []) ≡ 16) same (sizes (16 * n) (omega arith)) in
        let half = get_or halves n [] in
        let part = 16 * n + 16 - 16 * n in
        let long_part : length (slice_range bytes (16 * n) (16 * n + 16)) ≡ 16 =
        omega (arith, length-take part (drop (16 * n) bytes), length-drop (16 * n) bytes) in
        ext_get_or 0 (slice_range bytes (16 * n) (16 * n + 16)) half (omega (arith, long_part, size)) (λ k below.
        let row : (16 * n + k) / 16 ≡ n = omega (arith, long_part, below) in
        let column : (16 * n + k) % 16 ≡ k = omega (arith, long_part, below) in
        get_or-take part (drop (16 * n) bytes) k 0 (omega (arith, long_part, below))
        ∙ (get_or-drop (16 * n) bytes k 0
        ∙ (each (16 * n + k) (omega (arith, long_part, below))
        ∙ (ap (λ r. get_or (get_or halves r []) ((16 * n + k) % 16) 0) row ∙ ap (λ i. get_or half i 0) column))))

-- tables with the same halves, and fingerprints with the same tables
same_table : (a b c d : List ℕ) → a ≡ c → b ≡ d
    → (let t : HalfTable = record { low = a; high = b } in t) ≡ record { low = c; high = d }
same_table a b c d low high =
    ap (λ l. let t : HalfTable = record { low = l; high = b } in t) low
    ∙ ap (λ l. let t : HalfTable = record { low = c; high = l } in t) high

same_tables : (a b c d : HalfTable) (f : FingerprintsValue) → a ≡ f.first → b ≡ f.second → c ≡ f.third → d ≡ f.fourth
    → (let t : FingerprintsValue = record { first = a; second = b; third = c; fourth = d } in t) ≡ f
same_tables a b c d f first second third fourth =
    ap (λ x. let t : FingerprintsValue = record { first = x; second = b; third = c; fourth = d } in t) first
    ∙ (ap (λ x. let t : FingerprintsValue = record { first = f.first; second = x; third = c; fourth = d } in t) second
    ∙ (ap (λ x. let t : FingerprintsValue = record { first = f.first; second = f.second; third = x; fourth = d } in t)
    third
    ∙ ap (λ x. let t : FingerprintsValue = record { first = f.first; second = f.second; third = f.third; fourth = x }
    in t) fourth))

pub returns : goal.returns
returns c =
    let own = c.args.self.now in
    let bytes = c.loop-at.bytes in
    let half = half_at (halves_of own) bytes c.loop-at.invariant.long
    (λ k below. c.loop-at.invariant.size k (omega (arith, c.loop-at-test.false)))
    (λ k below. c.loop-at.invariant.each k (omega (arith, c.loop-at-test.false))) in
    same_tables _ _ _ _ own
    (same_table _ _ _ _ (half 0 (omega arith)) (half 1 (omega arith)))
    (same_table _ _ _ _ (half 2 (omega arith)) (half 3 (omega arith)))
    (same_table _ _ _ _ (half 4 (omega arith)) (half 5 (omega arith)))
    (same_table _ _ _ _ (half 6 (omega arith)) (half 7 (omega arith)))
