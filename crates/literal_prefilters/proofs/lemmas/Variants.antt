-- Texts that are the same, byte by byte.
-- For what tables cover.
use Rattle.std.proofs.Common.{◌≡◌, ℕ, ◌<◌, Bool, true, false, List, map, length, get_or, slice_index, sym, ap, ◌∙◌}
use Rattle.std.proofs.Common.{arith}
use Rattle.std.specs.Char.{to_ascii_lowercase}
use Rattle.std.proofs.lemmas.Bool.{eq-eqb, eqb-true}
use Rattle.std.proofs.lemmas.List.{length-map, get_or-map, ext_get_or}
use Rattle.literal_base.specs.Occurs.{AreEqualBytes, same_byte}

pub same_length : (c : Bool) (a b : List ℕ) → AreEqualBytes c a b → length a ≡ length b
same_length true a b s = sym (length-map a to_ascii_lowercase) ∙ (ap length s ∙ length-map b to_ascii_lowercase)
same_length false a b s = ap length s

pub same_byte_at : (c : Bool) (a b : List ℕ) → AreEqualBytes c a b → (k : ℕ) → k < length a
    → same_byte c (slice_index a k) (slice_index b k) ≡ true
same_byte_at true a b s k below =
    let long = same_length true a b s in
    eq-eqb _ _ (sym (get_or-map to_ascii_lowercase a k 0 0 below)
    ∙ (ap (λ xs. get_or xs k 0) s ∙ get_or-map to_ascii_lowercase b k 0 0 (omega arith)))
same_byte_at false a b s k below = eq-eqb _ _ (ap (λ xs. get_or xs k 0) s)

pub same_byte_joined : (c : Bool) (a b r : ℕ) → same_byte c a r ≡ true → same_byte c a b ≡ true → same_byte c b r ≡ true
same_byte_joined true a b r x y = eq-eqb _ _ (sym (eqb-true _ _ y) ∙ eqb-true _ _ x)
same_byte_joined false a b r x y = eq-eqb _ _ (sym (eqb-true _ _ y) ∙ eqb-true _ _ x)

pub same_byte_turned : (c : Bool) (a b : ℕ) → same_byte c a b ≡ true → same_byte c b a ≡ true
same_byte_turned true a b x = eq-eqb _ _ (sym (eqb-true _ _ x))
same_byte_turned false a b x = eq-eqb _ _ (sym (eqb-true _ _ x))

pub same_from_bytes : (c : Bool) (a b : List ℕ) → length a ≡ length b
    → ((k : ℕ) → k < length a → same_byte c (slice_index a k) (slice_index b k) ≡ true) → AreEqualBytes c a b
same_from_bytes true a b long each =
    ext_get_or 0 (map to_ascii_lowercase a) (map to_ascii_lowercase b)
    (length-map a to_ascii_lowercase ∙ (long ∙ sym (length-map b to_ascii_lowercase))) (λ k below.
    let inside : k < length a = omega (arith, length-map a to_ascii_lowercase) in
    get_or-map to_ascii_lowercase a k 0 0 inside
    ∙ (eqb-true _ _ (each k inside) ∙ sym (get_or-map to_ascii_lowercase b k 0 0 (omega arith))))
same_from_bytes false a b long each = ext_get_or 0 a b long (λ k below. eqb-true _ _ (each k below))
