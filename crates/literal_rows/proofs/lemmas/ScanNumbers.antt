-- A scan for candidates as numbers.
use Rattle.std.proofs.Common.{arith, ◌≡◌, ◌+◌, ◌-◌, ◌%◌, ◌<◌, ◌∙◌, ◌++◌, ◌∷◌, List, Option, ap, drop, length, subst}
use Rattle.std.proofs.Common.{append_assoc, length-append, sym, take, ℕ}
use Rattle.std.proofs.Math.Seq.{drop-append_seam, take-append_seam}
use Rattle.literal_fingerprints.specs.FingerprintsValue.{FingerprintsValue, fingerprints_in}
use Rattle.literal_fingerprints.specs.declared.candidates.CandidateScan.{CandidateScan}
use Rattle.literal_fingerprints.specs.declared.pair.RarePair.{RarePair}
use Rattle.literal_fingerprints.specs.declared.short.ShortPattern.{ShortPattern}
use Rattle.literal_rows.specs.Inside.Packed.{unpacked}
use Rattle.literal_rows.specs.Arrays.{pair_of, scan_by, short_of}

-- scans with the same parts
pub same_scan : (f g : FingerprintsValue) (p q : Option RarePair) (n m : ℕ) (s t : Option ShortPattern) → f ≡ g
    → p ≡ q → n ≡ m → s ≡ t
    → (let scan : CandidateScan = record { fingerprints = f; pair = p; skipped = n; short = s } in scan)
    ≡ record { fingerprints = g; pair = q; skipped = m; short = t }
same_scan f g p q n m s t fingerprints pair skipped short = grind arith

-- the numbers of fingerprints, and behind them those of a pair, and of a short pattern
pub scan_of : (skipped : ℕ) (numbers middle behind : List ℕ) (f : FingerprintsValue) (p : Option RarePair)
    (s : Option ShortPattern) → skipped < 256 → length numbers ≡ 32 → length middle ≡ 2
    → fingerprints_in (unpacked numbers) ≡ f → pair_of (unpacked middle) ≡ p → short_of (unpacked behind) ≡ s
    → scan_by ((skipped + 1) ∷ (numbers ++ (middle ++ behind)))
    ≡ record { fingerprints = f; pair = p; skipped = skipped; short = s }
unfolding scan_by
scan_of skipped numbers middle behind f p s few long two fingerprints pair short =
    let rest = middle ++ behind in
    let before : take 32 (numbers ++ rest) ≡ numbers =
    subst (λ n. take n (numbers ++ rest) ≡ numbers) long (take-append_seam numbers rest) in
    let after : drop 32 (numbers ++ rest) ≡ rest =
    subst (λ n. drop n (numbers ++ rest) ≡ rest) long (drop-append_seam numbers rest) in
    let between : take 2 (drop 32 (numbers ++ rest)) ≡ middle =
    ap (take 2) after ∙ subst (λ n. take n rest ≡ middle) two (take-append_seam middle behind) in
    let both : length (numbers ++ middle) ≡ 34 = omega (arith, long, two, length-append numbers middle) in
    let last : drop 34 (numbers ++ rest) ≡ behind =
    ap (λ l. drop 34 l) (sym (append_assoc numbers middle behind))
    ∙ subst (λ n. drop n (numbers ++ middle ++ behind) ≡ behind) both (drop-append_seam (numbers ++ middle) behind) in
    let same : (skipped + 1 - 1) % 256 ≡ skipped = omega (arith, few) in
    same_scan _ _ _ _ _ _ _ _ (ap (λ n. fingerprints_in (unpacked n)) before ∙ fingerprints)
    (ap (λ n. pair_of (unpacked n)) between ∙ pair) same (ap (λ n. short_of (unpacked n)) last ∙ short)
