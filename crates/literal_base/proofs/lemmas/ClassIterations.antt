-- The bytes of a class, from a byte up.
-- For the iterators over classes and over their elements.
use Rattle.std.proofs.Common.{◌≡◌, ◌==◌, ℕ, ◌+◌, ◌-◌, ◌<◌, ◌≤◌, suc, cond, filter, List, ◌∷◌, length, slice_index, ap}
use Rattle.std.proofs.Common.{◌∙◌, arith}
use Rattle.std.proofs.lemmas.Bool.{cond-true, cond-false, eq-eqb, ne_eqb}
use Rattle.std.specs.List.{range_with_len}
use Rattle.std.proofs.lemmas.List.FromFn.{length-range_with_len}
use Rattle.std.proofs.lemmas.List.Sums.{length-filter, count_by-le-length}
use Rattle.std.specs.List.Sorted.{IsStrictlyIncreasing}
use Rattle.std.proofs.lemmas.List.Kept.{IsStrictlyIncreasing-filter}
use Rattle.std.proofs.lemmas.List.FromFn.{get_or-range_with_len}
use Rattle.literal_base.specs.Bytes.{all_bytes}
use Rattle.literal_base.specs.Classes.{alphabet_len_of, elements_of}
use Rattle.literal_base.specs.Inside.Classes.{bytes_from, classes_from}

range_rises : (a n : ℕ) → IsStrictlyIncreasing (range_with_len a n)
range_rises a n k below =
    let len = length-range_with_len a n in
    omega (arith, get_or-range_with_len a n k 0 (omega arith), get_or-range_with_len a n (k + 1) 0 (omega arith))

bytes_from-more : (classes : List ℕ) (class byte : ℕ) → byte < length classes
    → bytes_from classes class byte ≡ cond (slice_index classes byte == class)
    (byte ∷ bytes_from classes class (byte + 1)) (bytes_from classes class (byte + 1))
bytes_from-more classes class byte below =
    let e : length classes - byte ≡ suc (length classes - (byte + 1)) = omega arith in
    ap (λ n. filter (λ b. slice_index classes b == class) (range_with_len byte n)) e

pub bytes_from-taken : (classes : List ℕ) (class byte : ℕ) → byte < length classes → slice_index classes byte ≡ class
    → bytes_from classes class byte ≡ byte ∷ bytes_from classes class (byte + 1)
bytes_from-taken classes class byte below here =
    bytes_from-more classes class byte below ∙ cond-true _ _ _ (eq-eqb _ _ here)

pub bytes_from-passed : (classes : List ℕ) (class byte : ℕ) → byte < length classes
    → (slice_index classes byte ≡ class → ⊥) → bytes_from classes class byte ≡ bytes_from classes class (byte + 1)
bytes_from-passed classes class byte below other =
    bytes_from-more classes class byte below ∙ cond-false _ _ _ (ne_eqb _ _ other)

-- from byte 0 up these are all bytes of the class
pub elements-bytes_from : (classes : List ℕ) (class : ℕ) → length classes ≡ 256
    → bytes_from classes class 0 ≡ elements_of classes class
unfolding all_bytes
elements-bytes_from classes class whole =
    let n : length classes - 0 ≡ 256 = omega arith in
    ap (λ n. filter (λ b. slice_index classes b == class) (range_with_len 0 n)) n

pub length-elements-le : (classes : List ℕ) (class : ℕ) → length (elements_of classes class) ≤ 256
unfolding all_bytes
length-elements-le classes class =
    let p = λ (b : ℕ). slice_index classes b == class in
    omega (arith, length-filter p all_bytes, count_by-le-length p all_bytes, length-range_with_len 0 256)

pub elements-rise : (classes : List ℕ) (class : ℕ) → IsStrictlyIncreasing (elements_of classes class)
unfolding all_bytes
elements-rise classes class =
    IsStrictlyIncreasing-filter (λ b. slice_index classes b == class) all_bytes (range_rises 0 256)

-- the first of the classes from one up
pub classes_from-more : (classes : List ℕ) (class : ℕ) → class < alphabet_len_of classes
    → classes_from classes class ≡ class ∷ classes_from classes (class + 1)
classes_from-more classes class below =
    let n : alphabet_len_of classes - class ≡ suc (alphabet_len_of classes - (class + 1)) = omega arith in
    ap (range_with_len class) n
