-- Counts of what passes a test, ranges of numbers, and what maps and filters keep.
-- For the counts of a search.
use Rattle.std.proofs.Common.{◌≡◌, ℕ, zero, suc, ◌+◌, Bool, true, false, ◌&&◌, cond, List, [], ◌∷◌, ◌++◌, length, map}
use Rattle.std.proofs.Common.{refl, sym, ap, ◌∙◌, arith, zero-add, ◌<◌, get_or, subst}
use Rattle.std.specs.List.{All, filter, count_by, range_with_len, AllPairs, Contains}
use Rattle.std.proofs.lemmas.List.Sums.{sum_by-cons, sum_by-append}
use Rattle.std.proofs.lemmas.List.Elements.{All-head, All-tail}
use Rattle.std.proofs.lemmas.List.{map-id, get_or-map, length-map}
use Rattle.std.proofs.lemmas.List.FromFn.{map-range_with_len_more}
use Rattle.std.proofs.lemmas.Bool.{false≢true}

pub count_by-cons : {X : Type 0} (p : X → Bool) (x : X) (xs : List X)
    → count_by p (x ∷ xs) ≡ cond (p x) 1 0 + count_by p xs
count_by-cons p x xs = sum_by-cons (λ x. cond (p x) 1 0) x xs

pub count_by-append : {X : Type 0} (p : X → Bool) (xs ys : List X)
    → count_by p (xs ++ ys) ≡ count_by p xs + count_by p ys
count_by-append p xs ys = sum_by-append (λ x. cond (p x) 1 0) xs ys

-- tests that agree at each element
pub count_by-same : {X : Type 0} (p q : X → Bool) (xs : List X) → All (λ x. p x ≡ q x) xs
    → count_by p xs ≡ count_by q xs
count_by-same p q [] same = refl
count_by-same p q (x ∷ xs) same =
    let here : cond (p x) 1 0 ≡ cond (q x) 1 0 = ap (λ b. cond b 1 0) (All-head (λ x. p x ≡ q x) x xs same) in
    let rest : count_by p xs ≡ count_by q xs = count_by-same p q xs (All-tail (λ x. p x ≡ q x) x xs same) in
    count_by-cons p x xs ∙ (ap (λ n. n + count_by p xs) here
    ∙ (ap (λ n. cond (q x) 1 0 + n) rest ∙ sym (count_by-cons q x xs)))

pub count_by-none : {X : Type 0} (p : X → Bool) (xs : List X) → All (λ x. p x ≡ false) xs → count_by p xs ≡ 0
count_by-none p [] none = refl
count_by-none p (x ∷ xs) none =
    let here : cond (p x) 1 0 ≡ 0 = ap (λ b. cond b 1 0) (All-head (λ x. p x ≡ false) x xs none) in
    let rest : count_by p xs ≡ 0 = count_by-none p xs (All-tail (λ x. p x ≡ false) x xs none) in
    count_by-cons p x xs ∙ (ap (λ n. n + count_by p xs) here ∙ ap (λ n. 0 + n) rest)

pub count_by-all : {X : Type 0} (p : X → Bool) (xs : List X) → All (λ x. p x ≡ true) xs → count_by p xs ≡ length xs
count_by-all p [] all = refl
count_by-all p (x ∷ xs) all =
    let one : 1 + length xs ≡ suc (length xs) = omega arith in
    let here : cond (p x) 1 0 ≡ 1 = ap (λ b. cond b 1 0) (All-head (λ x. p x ≡ true) x xs all) in
    let rest : count_by p xs ≡ length xs = count_by-all p xs (All-tail (λ x. p x ≡ true) x xs all) in
    count_by-cons p x xs ∙ (ap (λ n. n + count_by p xs) here ∙ (ap (λ n. 1 + n) rest ∙ one))

pub count_by-map : {X Y : Type 0} (p : Y → Bool) (f : X → Y) (xs : List X)
    → count_by p (map f xs) ≡ count_by (λ x. p (f x)) xs
count_by-map p f [] = refl
count_by-map p f (x ∷ xs) =
    let rest = count_by-map p f xs in
    omega (arith, count_by-cons p (f x) (map f xs), count_by-cons (λ x. p (f x)) x xs)

filter_step : {X : Type 0} (b : Bool) (p : X → Bool) (x : X) (ys : List X) (n : ℕ) → count_by p ys ≡ n
    → count_by p (cond b (x ∷ ys) ys) ≡ cond (b && p x) 1 0 + n
filter_step true p x ys n is = count_by-cons p x ys ∙ ap (λ m. cond (p x) 1 0 + m) is
filter_step false p x ys n is = is ∙ sym (zero-add n)

pub count_by-filter : {X : Type 0} (p q : X → Bool) (xs : List X)
    → count_by p (filter q xs) ≡ count_by (λ x. q x && p x) xs
count_by-filter p q [] = refl
count_by-filter p q (x ∷ xs) =
    filter_step (q x) p x (filter q xs) _ (count_by-filter p q xs) ∙ sym (count_by-cons (λ x. q x && p x) x xs)

-- what passes a test that fails or holds at each element
pub filter-none : {X : Type 0} (p : X → Bool) (xs : List X) → All (λ x. p x ≡ false) xs → filter p xs ≡ []
filter-none p [] none = refl
filter-none p (x ∷ xs) none =
    ap (λ b. cond b (x ∷ filter p xs) (filter p xs)) (All-head (λ x. p x ≡ false) x xs none)
    ∙ filter-none p xs (All-tail (λ x. p x ≡ false) x xs none)

pub filter-all : {X : Type 0} (p : X → Bool) (xs : List X) → All (λ x. p x ≡ true) xs → filter p xs ≡ xs
filter-all p [] all = refl
filter-all p (x ∷ xs) all =
    ap (λ b. cond b (x ∷ filter p xs) (filter p xs)) (All-head (λ x. p x ≡ true) x xs all)
    ∙ ap (λ ys. x ∷ ys) (filter-all p xs (All-tail (λ x. p x ≡ true) x xs all))

-- one more number at the end of a range
pub range-more : (a n : ℕ) → range_with_len a (n + 1) ≡ range_with_len a n ++ (a + n) ∷ []
range-more a n = sym (map-id (range_with_len a (n + 1)))
    ∙ (map-range_with_len_more (λ (k : ℕ). k) a n (a + n) refl
    ∙ ap (λ xs. xs ++ (a + n) ∷ []) (map-id (range_with_len a n)))

pub range-push : (n : ℕ) → range_with_len 0 (n + 1) ≡ range_with_len 0 n ++ n ∷ []
range-push n = range-more 0 n ∙ ap (λ k. range_with_len 0 n ++ k ∷ []) (zero-add n)

-- two ranges end to end
pub range-append : (a m n : ℕ) → range_with_len a (m + n) ≡ range_with_len a m ++ range_with_len (a + m) n
range-append a zero n = let e : a ≡ a + 0 = omega arith in let z : 0 + n ≡ n = omega arith in
    rw z (ap (λ k. range_with_len k n) e)
range-append a (suc m) n =
    let rest = range-append (a + 1) m n in
    let e : a + 1 + m ≡ a + suc m = omega arith in
    let s : suc m + n ≡ suc (m + n) = omega arith in
    rw s (ap (λ xs. a ∷ xs) (rest ∙ ap (λ k. range_with_len (a + 1) m ++ range_with_len k n) e))

pub Contains-map : {X Y : Type 0} (f : X → Y) (xs : List X) (x : X) → Contains xs x → Contains (map f xs) (f x)
Contains-map f xs x at =
    let k = at.0 in
    let long = length-map xs f in
    (k, omega (arith, at.1), get_or-map f xs k x (f x) at.1 ∙ ap f at.2)

contains_later : {X : Type 0} (b : Bool) (y : X) (ys : List X) (x : X) → Contains ys x → Contains (cond b (y ∷ ys) ys) x
contains_later true y ys x at = (suc at.0, omega (arith, at.1), at.2)
contains_later false y ys x at = at

contains_here : {X : Type 0} (b : Bool) (y : X) (ys : List X) (x : X) → b ≡ true → y ≡ x
    → Contains (cond b (y ∷ ys) ys) x
contains_here true y ys x is same = (0, omega arith, same)
contains_here false y ys x is same = absurd (false≢true is)

pub Contains-filter : {X : Type 0} (q : X → Bool) (xs : List X) (x : X) → Contains xs x → q x ≡ true
    → Contains (filter q xs) x
Contains-filter q [] x at is = absurd (omega (arith, at.1))
Contains-filter q (y ∷ ys) x (zero, within, same) is = contains_here (q y) y (filter q ys) x (ap q same ∙ is) same
Contains-filter q (y ∷ ys) x (suc k, within, same) is =
    contains_later (q y) y (filter q ys) x (Contains-filter q ys x (k, omega arith, same) is)

pub AllPairs-map : {Y : Type 0} (R : Y → Y → Type 0) (f : ℕ → Y) (xs : List ℕ) → AllPairs (λ x y. R (f x) (f y)) xs
    → AllPairs R (map f xs)
AllPairs-map R f xs all i j d before within =
    let long = length-map xs f in
    let j_in : j < length xs = omega arith in
    let i_in : i < length xs = omega arith in
    subst (λ y. R y (get_or (map f xs) j d)) (sym (get_or-map f xs i 0 d i_in))
    (subst (λ y. R (f (get_or xs i 0)) y) (sym (get_or-map f xs j 0 d j_in)) (all i j 0 before j_in))

-- a test that follows from another
pub and_implied : (x y : Bool) → (y ≡ true → x ≡ true) → (x && y) ≡ y
and_implied true y h = refl
and_implied false true h = h refl
and_implied false false h = refl

pub and_right_true : (x y : Bool) → y ≡ true → (x && y) ≡ x
and_right_true true y is = is
and_right_true false y is = refl

pub and_right_false : (x y : Bool) → y ≡ false → (x && y) ≡ false
and_right_false true y is = is
and_right_false false y is = refl

pub and_left_part : (x y : Bool) → (x && y) ≡ true → x ≡ true
and_left_part true y is = refl
and_left_part false y is = is
