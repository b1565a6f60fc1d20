-- Numbers that are counted up.
-- For the counted iterators.
use Rattle.std.proofs.Common.{◌≡◌, ℕ, ◌+◌, ◌-◌, ◌<◌, List, [], ◌∷◌, length, suc, refl, ap, ◌∙◌, arith, Some}
use Rattle.std.proofs.lemmas.List.FromFn.{length-range_with_len, length-enumerate_from}
use Rattle.std.specs.Prelude.{⊤}
use Rattle.std.specs.List.{enumerate_from, range_with_len, zip}
use Rattle.std.specs.Iterator.{MakesProgress, item_count}

-- of the numbers from a up to b the first is a, and the numbers from a + 1 are left
range_first : (a b : ℕ) → 0 < b - a → range_with_len a (b - a) ≡ a ∷ range_with_len (a + 1) (b - (a + 1))
range_first a b h =
    let one_more : b - a ≡ suc (b - (a + 1)) = omega arith in
    ap (range_with_len a) one_more

-- the same of a range that has moved up by one, and gave the number n
pub range_moved : (a b next end n : ℕ) (left : List ℕ) → range_with_len a (b - a) ≡ left → 0 < b - a → n ≡ a
    → next ≡ a + 1 → end ≡ b
    → left ≡ n ∷ range_with_len next (end - next)
range_moved a b next end n left all some is moved same = rw (← all, is, moved, same) (range_first a b some)

-- what gives the first of the items that are left ends
pub first_of_left : {A : Type 0} (x : A) (old new : List A) → old ≡ x ∷ new
    → MakesProgress (λ _. ⊤) (item_count (λ left. left)) old (Some x) new
first_of_left x old new e =
    let shorter : length new < length old = rw e (omega arith) in
    record { on = λ _. (tt, tt, shorter); keeps = tt; rests = λ _. tt }

-- the numbers from n on, each beside an element of a list of the same length, are the places of the elements
pub zip_range : {A : Type 0} (n : ℕ) (xs : List A) → zip (range_with_len n (length xs)) xs ≡ enumerate_from n xs
zip_range n [] = refl
zip_range n (x ∷ xs) = ap (λ pairs. (n, x) ∷ pairs) (zip_range (n + 1) xs)

-- the numbers from 0 up to n are n
pub range_length : (n : ℕ) → length (range_with_len 0 (n - 0)) ≡ n
range_length n = length-range_with_len 0 (n - 0) ∙ omega arith

-- a list has as many pairs of a place and an element as elements
pub zip_length : {A : Type 0} (xs : List A) → length (zip (range_with_len 0 (length xs)) xs) ≡ length xs
zip_length xs = ap length (zip_range 0 xs) ∙ length-enumerate_from 0 xs

-- beside no elements there are no pairs
pub zip_nothing : {A B : Type 0} (xs : List A) (ys : List B) → length ys ≡ 0 → zip xs ys ≡ []
zip_nothing [] ys none = refl
zip_nothing (x ∷ xs) [] none = refl
zip_nothing (x ∷ xs) (y ∷ ys) none = absurd (omega (arith, none))
