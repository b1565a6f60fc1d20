-- How many bytes a set has, and the sum of their ranks: one byte more, and whatever distances they have in a table.
-- For `CountedSet`, `ByteTable::if_small` and `Running`.
use Rattle.std.proofs.Common.{◌≡◌, ◌==◌, ℕ, ◌+◌, ◌<◌, ◌≤◌, ◌||◌, zero, suc, cond, Bool, true, false, List, [], ◌∷◌}
use Rattle.std.proofs.Common.{length, get_or, set, Option, Some, None, is_some, sum_by, refl, sym, ap, ◌∙◌, ⊎_elim}
use Rattle.std.proofs.Common.{eq-eqb, arith}
use Rattle.std.specs.List.{enumerate_from}
use Rattle.std.proofs.lemmas.Bool.{cases_eq, ne_eqb}
use Rattle.std.proofs.lemmas.List.{length-set, get_or-set_same, get_or-set_other}
use Rattle.std.proofs.lemmas.List.FromFn.{length-enumerate_from, get_or-enumerate_from}
use Rattle.std.proofs.lemmas.List.Sums.{sum_by-set, sum_by-le, sum_by-cons}
use Rattle.literal_base.specs.Rank.{rank_of}
use Rattle.literal_base.proofs.lemmas.Callers.{by_byte_is, length-by_byte, get_or-by_byte}
use Rattle.literal_prefilters.specs.Table.{size, rank_at, rank_sum_of}
use Rattle.literal_prefilters.specs.Tables.{of_set, table_of}
use Rattle.literal_prefilters.proofs.lemmas.Sizes.{one}
use Rattle.literal_prefilters.proofs.lemmas.TableOf.{length-table_of, table_of_agree}

-- what a byte has in such a table
abbrev entry : Bool → Option ℕ
entry q = cond q (Some 0) None

sum_agree : {X : Type 0} (f g : X → ℕ) (xs ys : List X) → length xs ≡ length ys → ((k : ℕ) (d : X) → k < length xs
    → f (get_or xs k d) ≡ g (get_or ys k d)) → sum_by f xs ≡ sum_by g ys
sum_agree f g [] [] e same = refl
sum_agree f g [] (y ∷ ys) e same = absurd (omega arith)
sum_agree f g (x ∷ xs) [] e same = absurd (omega arith)
sum_agree f g (x ∷ xs) (y ∷ ys) e same =
    let first : f x ≡ g y = same 0 x (omega arith) in
    let more = sum_agree f g xs ys (omega arith) (λ k d below. same (suc k) d (omega arith)) in
    omega (arith, sum_by-cons f x xs, sum_by-cons g y ys)

some_is : (q : Bool) (m n : ℕ) → is_some (cond q (Some m) None) ≡ is_some (cond q (Some n) None)
some_is true m n = refl
some_is false m n = refl

-- its number of bytes, whatever the distances
pub size-of_set : (p : ℕ → Bool) (f : ℕ → ℕ) → size (table_of p f) ≡ size (of_set p)
size-of_set p f =
    sum_agree one one (table_of p f) (of_set p) (length-table_of p f ∙ sym (length-table_of p (λ _. 0)))
    (λ k d below.
    let inside : k < 256 = omega (arith, length-by_byte (λ b. cond (p b) (Some (f b)) None)) in
    ap one (get_or-by_byte (λ b. cond (p b) (Some (f b)) None) k d inside)
    ∙ (ap (λ t. cond {A = ℕ} t 1 0) (some_is (p k) (f k) 0)
    ∙ sym (ap one (get_or-by_byte (λ b. entry (p b)) k d inside))))

-- one byte more
some_more : (q t : Bool) → t ≡ false → entry (q || t) ≡ entry q
some_more true t e = refl
some_more false true e = absurd cc
some_more false false e = refl

some_new : (q t : Bool) → t ≡ true → entry true ≡ entry (q || t)
some_new true t e = refl
some_new false true e = refl
some_new false false e = absurd cc

of_set-more : (p q : ℕ → Bool) (x : ℕ) → x < 256 → ((b : ℕ) → q b ≡ (p b || b == x))
    → set (of_set p) x (Some 0) ≡ of_set q
of_set-more p q x byte each =
    let here : ℕ → Option ℕ = λ b. entry (p b) in
    let long = length-by_byte here in
    by_byte_is (λ b. entry (q b)) (set (of_set p) x (Some 0)) None (length-set (of_set p) x (Some 0) ∙ long) (λ k below.
    ⊎_elim
    (λ (e : k ≡ x). ap (λ j. get_or (set (of_set p) x (Some 0)) j None) e
    ∙ (get_or-set_same (of_set p) x (Some 0) None (omega arith) ∙ (some_new (p k) (k == x) (eq-eqb k x e)
    ∙ ap entry (sym (each k)))))
    (λ (ne : k ≡ x → ⊥). get_or-set_other (of_set p) x k (Some 0) None ne ∙ (get_or-by_byte here k None below
    ∙ (sym (some_more (p k) (k == x) (ne_eqb k x ne)) ∙ ap entry (sym (each k)))))
    (cases_eq k x))

module _ (p q : ℕ → Bool) (x : ℕ) (byte : x < 256) (each : (b : ℕ) → q b ≡ (p b || b == x)) where
  at_x : get_or (of_set p) x None ≡ entry (p x)
  at_x = get_or-by_byte (λ b. entry (p b)) x None byte

  long : length (of_set p) ≡ 256
  long = length-by_byte (λ b. entry (p b))

  pub size-more : p x ≡ false → size (of_set q) ≡ size (of_set p) + 1
  size-more new =
      let old : one (get_or (of_set p) x None) ≡ 0 = ap one (at_x ∙ ap entry new) in
      let changed = sum_by-set one (of_set p) x (Some 0) None (omega (arith, long)) in
      ap size (sym (of_set-more p q x byte each)) ∙ omega arith

-- the places of a list with one value set
enumerate-set : (xs : List (Option ℕ)) (n i : ℕ) (y : Option ℕ)
    → enumerate_from n (set xs i y) ≡ set (enumerate_from n xs) i (n + i, y)
enumerate-set [] n i y = refl
enumerate-set (x ∷ xs) n zero y =
    let e : n + 0 ≡ n = omega arith in
    ap (λ k. (k, y) ∷ enumerate_from (n + 1) xs) (sym e)
enumerate-set (x ∷ xs) n (suc i) y =
    let e : (n + 1) + i ≡ n + suc i = omega arith in
    ap (λ es. (n, x) ∷ es) (enumerate-set xs (n + 1) i y) ∙ ap (λ k. (n, x) ∷ set (enumerate_from (n + 1) xs) i
    (k, y)) e

module _ (p q : ℕ → Bool) (x : ℕ) (byte : x < 256) (each : (b : ℕ) → q b ≡ (p b || b == x)) where
  pub rank_sum-more : p x ≡ false → rank_sum_of (of_set q) ≡ rank_sum_of (of_set p) + rank_of x
  rank_sum-more new =
      let t = of_set p in
      let long = length-by_byte (λ b. entry (p b)) in
      let inside : x < length t = omega (arith, long) in
      let zero_x : 0 + x ≡ x = omega arith in
      let none : get_or t x None ≡ None = get_or-by_byte (λ b. entry (p b)) x None byte ∙ ap entry new in
      let at : get_or (enumerate_from 0 t) x (0, None) ≡ (x, None) = get_or-enumerate_from 0 t x (0, None) inside
      ∙ (ap (λ o. (0 + x, o)) none ∙ ap (λ k. (k, None)) zero_x) in
      let old : rank_at (get_or (enumerate_from 0 t) x (0, None)) ≡ 0 = ap rank_at at in
      let changed = sum_by-set rank_at (enumerate_from 0 t) x (0 + x, Some 0) (0, None) (omega
      (arith, length-enumerate_from 0 t)) in
      let added : rank_at (0 + x, Some 0) ≡ rank_of x = ap rank_of zero_x in
      ap rank_sum_of (sym (of_set-more p q x byte each)) ∙ (ap (sum_by rank_at) (enumerate-set t 0 x (Some 0))
      ∙ omega arith)

-- at most 256 bytes
pub size-of_set-le : (p : ℕ → Bool) → size (of_set p) ≤ 256
size-of_set-le p =
    let long = length-by_byte (λ b. entry (p b)) in
    omega (arith, long, sum_by-le one 1 (of_set p) (λ k d below. at_most (get_or (of_set p) k d)))
  where
    at_most : (o : Option ℕ) → one o ≤ 1
    at_most None = omega arith
    at_most (Some x) = omega arith

-- no byte
sum_zero : {X : Type 0} (f : X → ℕ) (xs : List X) → ((k : ℕ) (d : X) → k < length xs → f (get_or xs k d) ≡ 0)
    → sum_by f xs ≡ 0
sum_zero f [] none = refl
sum_zero f (x ∷ xs) none =
    let first : f x ≡ 0 = none 0 x (omega arith) in
    let more = sum_zero f xs (λ k d below. none (suc k) d (omega arith)) in
    omega (arith, sum_by-cons f x xs)

none_at : (p : ℕ → Bool) → ((b : ℕ) → p b ≡ false) → (k : ℕ) (d : Option ℕ) → k < length (of_set p)
    → get_or (of_set p) k d ≡ None
none_at p none k d below =
    get_or-by_byte (λ b. entry (p b)) k d (omega (arith, length-by_byte (λ b. entry (p b)))) ∙ ap entry (none k)

pub size-none : (p : ℕ → Bool) → ((b : ℕ) → p b ≡ false) → size (of_set p) ≡ 0
size-none p none = sum_zero one (of_set p) (λ k d below. ap one (none_at p none k d below))

pub rank_sum-none : (p : ℕ → Bool) → ((b : ℕ) → p b ≡ false) → rank_sum_of (of_set p) ≡ 0
rank_sum-none p none =
    sum_zero rank_at (enumerate_from 0 (of_set p)) (λ k d below.
    let inside : k < length (of_set p) = omega (arith, length-enumerate_from 0 (of_set p)) in
    ap rank_at (get_or-enumerate_from 0 (of_set p) k d inside ∙ ap (λ o. (0 + k, o)) (none_at p none k d.1 inside)))

pub rank_sum-of_set : (p : ℕ → Bool) (f : ℕ → ℕ) → rank_sum_of (table_of p f) ≡ rank_sum_of (of_set p)
rank_sum-of_set p f =
    let t = table_of p f in
    let u = of_set p in
    sum_agree rank_at rank_at (enumerate_from 0 t) (enumerate_from 0 u)
    (length-enumerate_from 0 t ∙ (length-table_of p f ∙ sym (length-enumerate_from 0 u
    ∙ length-table_of p (λ _. 0)))) (λ k d below.
    let inside : k < 256 = omega (arith, length-enumerate_from 0 t, length-table_of p f) in
    ap rank_at (get_or-enumerate_from 0 t k d (omega (arith, length-table_of p f))
    ∙ ap (λ o. (0 + k, o)) (get_or-by_byte (λ b. cond (p b) (Some (f b)) None) k d.1 inside))
    ∙ (ap (λ s. cond s (rank_of (0 + k)) 0) (some_is (p k) (f k) 0)
    ∙ sym (ap rank_at (get_or-enumerate_from 0 u k d (omega (arith, length-table_of p (λ _. 0)))
    ∙ ap (λ o. (0 + k, o)) (get_or-by_byte (λ b. entry (p b)) k d.1 inside)))))

pub size-agree : (p q : ℕ → Bool) → ((b : ℕ) → p b ≡ q b) → size (of_set p) ≡ size (of_set q)
size-agree p q same = ap size (table_of_agree p q (λ (_ : ℕ). 0) (λ _. 0) same (λ b. refl))

-- a set with more has no fewer bytes
sum_grows : {X : Type 0} (f : X → ℕ) (xs ys : List X) → length xs ≡ length ys → ((k : ℕ) (d : X) → k < length xs
    → f (get_or xs k d) ≤ f (get_or ys k d)) → sum_by f xs ≤ sum_by f ys
sum_grows f [] [] e same = omega arith
sum_grows f [] (y ∷ ys) e same = omega arith
sum_grows f (x ∷ xs) [] e same = absurd (omega arith)
sum_grows f (x ∷ xs) (y ∷ ys) e same =
    let first : f x ≤ f y = same 0 x (omega arith) in
    let more = sum_grows f xs ys (omega arith) (λ k d below. same (suc k) d (omega arith)) in
    omega (arith, sum_by-cons f x xs, sum_by-cons f y ys)

one_grows : (p q : Bool) → (p ≡ true → q ≡ true) → one (entry p) ≤ one (entry q)
one_grows true true h = omega arith
one_grows true false h = let no = h refl in absurd cc
one_grows false true h = omega arith
one_grows false false h = omega arith

pub size-grows : (p q : ℕ → Bool) → ((b : ℕ) → p b ≡ true → q b ≡ true) → size (of_set p) ≤ size (of_set q)
size-grows p q more =
    let here : (ℕ → Bool) → ℕ → Option ℕ = λ s b. entry (s b) in
    sum_grows one (of_set p) (of_set q) (length-by_byte (here p) ∙ sym (length-by_byte (here q))) (λ k d below.
    let inside : k < 256 = omega (arith, length-by_byte (here p)) in
    let a = ap one (get_or-by_byte (here p) k d inside) in
    let b = ap one (get_or-by_byte (here q) k d inside) in
    let step = one_grows (p k) (q k) (more k) in
    omega arith)
