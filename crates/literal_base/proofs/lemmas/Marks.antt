-- The marks of ranges of bytes.
-- For `ByteClassSet::set_range` and the laws on marks and classes.
use Rattle.std.proofs.Common.{◌≡◌, ◌==◌, ℕ, ◌+◌, ◌-◌, ◌<◌, ◌≤◌, ◌||◌, Bool, true, false, List, [], ◌∷◌}
use Rattle.std.proofs.Common.{length, get_or, slice_index, take, zero, suc, cond, sym, refl, ap, subst, ⊎_elim, ◌∙◌}
use Rattle.std.proofs.Common.{arith, inl, inr}
use Rattle.std.proofs.lemmas.Bool.{eq-eqb, ne_eqb, cases_eq, cases_lt}
use Rattle.std.proofs.lemmas.List.Sums.{count_by_more_yes, length-filter, sum_by-cons, sum_by-take-le}
use Rattle.std.proofs.lemmas.List.FromFn.{get_or-range_with_len, length-range_with_len}
use Rattle.literal_base.specs.Bytes.{all_bytes, by_byte, contains}
use Rattle.literal_base.specs.Classes.{is_marked_by, with_range_marked, class_of, alphabet_len_of}
use Rattle.literal_base.specs.Classes.{elements_of}
use Rattle.literal_base.proofs.lemmas.Callers.{by_byte_is, get_or-by_byte}

or_exchanged : (a b c : Bool) → ((a || b) || c) ≡ (a || (c || b))
or_exchanged true b c = refl
or_exchanged false true true = refl
or_exchanged false true false = refl
or_exchanged false false true = refl
or_exchanged false false false = refl

or_nothing : (a b : Bool) → b ≡ false → a ≡ (a || b)
or_nothing true b none = refl
or_nothing false true none = sym none
or_nothing false false none = refl

-- first the byte before the start, then the end
pub with_range_marked_is : (old mid new : List Bool) (start end : ℕ) → length new ≡ 256
    → ((b : ℕ) → contains mid b ≡ (contains old b || b + 1 == start))
    → ((b : ℕ) → contains new b ≡ (contains mid b || b == end)) → new ≡ with_range_marked old start end
with_range_marked_is old mid new start end whole before at_end =
    by_byte_is (λ b. contains old b || is_marked_by (start, end) b) new false whole (λ b below.
    at_end b ∙ (ap (λ t. t || b == end) (before b) ∙ or_exchanged (contains old b) (b + 1 == start) (b == end)))

pub before_start : (start b : ℕ) → 0 < start → (b == start - 1) ≡ (b + 1 == start)
before_start start b some =
    ⊎_elim
    (λ same. eq-eqb b (start - 1) same ∙ sym (eq-eqb (b + 1) start (omega arith)))
    (λ other. ne_eqb b (start - 1) other ∙ sym (ne_eqb (b + 1) start (λ e. other (omega arith))))
    (cases_eq b (start - 1))

-- no byte stands before byte 0
pub before_zero : (set : List Bool) (start b : ℕ) → start ≡ 0 → contains set b ≡ (contains set b || b + 1 == start)
before_zero set start b first = or_nothing (contains set b) (b + 1 == start) (ne_eqb (b + 1) start (λ e. omega arith))

-- from a byte to the next the class grows by one at most
class_of-step : (marked : List Bool) (b : ℕ) → class_of marked (suc b) ≤ class_of marked b + 1
class_of-step [] zero = omega arith
class_of-step [] (suc b) = omega arith
class_of-step (true ∷ more) zero = omega arith
class_of-step (false ∷ more) zero = omega arith
class_of-step (m ∷ more) (suc b) =
    let mark : Bool → ℕ = λ k. cond k 1 0 in
    let here : class_of (m ∷ more) (suc b) ≡ mark m + class_of more b = sum_by-cons mark m (take b more) in
    let next : class_of (m ∷ more) (suc (suc b)) ≡ mark m + class_of more (suc b) =
    sum_by-cons mark m (take (suc b) more) in
    let step = class_of-step more b in
    omega arith

byte_of_class : (marked : List Bool) (class n : ℕ) → class ≤ class_of marked n
    → (b : ℕ) × b ≤ n × (class_of marked b ≡ class)
byte_of_class marked class zero reached = (zero, omega arith, omega arith)
byte_of_class marked class (suc n) reached =
    let step = class_of-step marked n in
    elim (cases_lt (class_of marked n) class) [
      | inl above ↦ (suc n, omega arith, omega arith)
      | inr before ↦ let found = byte_of_class marked class n before in (found.0, omega (arith, found.1), found.2)
    ]

-- each class up to the greatest has a byte
pub class_has_byte : (marked : List Bool) (class : ℕ) → class < alphabet_len_of (by_byte (class_of marked))
    → (b : ℕ) × b < 256 × (slice_index (by_byte (class_of marked)) b ≡ class)
class_has_byte marked class below =
    let found = byte_of_class marked class 255 (omega (arith, get_or-by_byte (class_of marked) 255 0 (omega arith))) in
    let within : found.0 < 256 = omega (arith, found.1) in
    (found.0, within, get_or-by_byte (class_of marked) found.0 0 within ∙ found.2)

-- so the list of its bytes is not empty
pub class_has_elements : (marked : List Bool) (class : ℕ) → class < alphabet_len_of (by_byte (class_of marked))
    → elements_of (by_byte (class_of marked)) class ≡ [] → ⊥
unfolding all_bytes
class_has_elements marked class below none =
    let found = class_has_byte marked class below in
    let b = found.0 in
    let p = λ (k : ℕ). slice_index (by_byte (class_of marked)) k == class in
    let within : b < length all_bytes = omega (arith, found.1, length-range_with_len 0 256) in
    let here : get_or all_bytes b 0 ≡ b = omega (arith, get_or-range_with_len 0 256 b 0 found.1) in
    let passes : p (get_or all_bytes b 0) ≡ true = subst (λ k. p k ≡ true) (sym here) (eq-eqb _ _ found.2) in
    omega (
      arith,
      ap length none,
      length-filter p all_bytes,
      count_by_more_yes p all_bytes b 0 within passes,
      sum_by-take-le (λ k. cond (p k) 1 0) all_bytes (b + 1),
    )
