use Rattle.std.proofs.Common.{◌≡◌, ◌+◌, ◌<◌, ◌++◌, ◌∷◌, ◌∙◌, List, [], ap, append-nil, arith, length, subst, sym, ℕ}
use Rattle.std.specs.Prelude.{MatchOption}
use Rattle.std.specs.List.{repeat}
use Rattle.literal_fingerprints.specs.FingerprintsValue.{fingerprints_in}
use Rattle.literal_rows.specs.Inside.Packed.{unpacked}
use Rattle.literal_rows.specs.Arrays.{pair_of, scan_by, short_of}
use Rattle.literal_rows.specs.declared.array.TheConstants.{SCAN_LEN}
use Rattle.literal_rows.proofs.lemmas.ScanNumbers.{scan_of}
use Rattle.literal_rows.proofs.array.scan_numbers.Goals as goal

pub returns : goal.returns
returns c =
    let numbers = c.pack.new.numbers in
    let middle = c.copy_from_slice-2.new.self in
    let behind = c.copy_from_slice.new.self in
    let long : length numbers ≡ 32 = ap (λ (l : List ℕ). length l) c.pack.ensures.packed in
    let scan = c.in-Some.scan.now in
    let all = (scan.skipped + 1) ∷ (numbers ++ (middle ++ (behind ++ []))) in
    let pair : pair_of (unpacked middle) ≡ scan.pair =
    ap (λ n. pair_of (unpacked n)) c.copy_from_slice-2.ensures.after ∙ c.pair_numbers.ensures in
    let short : short_of (unpacked (behind ++ [])) ≡ scan.short =
    ap (λ n. short_of (unpacked n)) (append-nil behind ∙ c.copy_from_slice.ensures.after) ∙ c.short_numbers.ensures in
    let two : length middle ≡ 2 = c.copy_from_slice-2.ensures.len in
    subst (λ o. MatchOption o (all ≡ repeat SCAN_LEN (0 ∷ []))
    (λ s. (0 < scan.skipped + 1) × (scan_by all ≡ s.now))) (sym c.in-Some.is) (
      omega arith,
      scan_of scan.skipped numbers middle (behind ++ []) scan.fingerprints scan.pair scan.short (omega arith) long two
          (ap fingerprints_in c.pack.ensures.bytes ∙ c.to_bytes.ensures) pair short,
    )
