-- What is known of each identifier that a `for` takes of an iteration over those below a length.
-- For callers: their proofs cite this file, and no other of this crate's proofs.
use Rattle.std.proofs.Common.{◌≡◌, ℕ, ◌+◌, ◌<◌, List, ◌∷◌, ◌++◌, length, get_or, sym, ap, ◌∙◌, arith}
use Rattle.std.proofs.lemmas.List.{length-append}
use Rattle.std.proofs.lemmas.List.FromFn.{get_or-range_with_len, length-range_with_len}
use Rattle.std.proofs.Math.Seq.{get_or-append_seam}
use Rattle.std.specs.List.{range_with_len}

few_before : (len : ℕ) (taken : List ℕ) (id : ℕ) (left : List ℕ) → taken ++ id ∷ left ≡ range_with_len 0 len
    → length taken < len
few_before len taken id left split =
    omega (arith, ap length split, length-append taken (id ∷ left), length-range_with_len 0 len)

-- Of the identifiers below a length some were taken, and of the rest the next one is given: it is their number.
pub id_in_turn : (len : ℕ) (taken rest : List ℕ) (id : ℕ) (left : List ℕ) → taken ++ rest ≡ range_with_len 0 len
    → rest ≡ id ∷ left → id ≡ length taken
id_in_turn len taken rest id left split next =
    let whole : taken ++ id ∷ left ≡ range_with_len 0 len = ap (λ more. taken ++ more) (sym next) ∙ split in
    let given : get_or (range_with_len 0 len) (length taken) 0 ≡ 0 + length taken = get_or-range_with_len 0 len
    (length taken) 0 (few_before len taken id left whole) in
    sym (get_or-append_seam taken id left 0) ∙ (ap (λ ids. get_or ids (length taken) 0) whole ∙ omega (arith, given))

-- And it is below the length.
pub id_below : (len : ℕ) (taken rest : List ℕ) (id : ℕ) (left : List ℕ) → taken ++ rest ≡ range_with_len 0 len
    → rest ≡ id ∷ left → id < len
id_below len taken rest id left split next =
    let whole : taken ++ id ∷ left ≡ range_with_len 0 len = ap (λ more. taken ++ more) (sym next) ∙ split in
    omega (arith, id_in_turn len taken rest id left split next, few_before len taken id left whole)
