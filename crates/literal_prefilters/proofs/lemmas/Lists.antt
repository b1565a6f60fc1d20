-- Where a test first holds in a list, tests that agree, and the largest value.
-- For the first place of a table, the set of rare bytes, and reaches.
use Rattle.std.proofs.Common.{◌≡◌, ℕ, ◌<◌, ◌≤◌, Bool, true, false, cond, List, length, get_or, Some, None}
use Rattle.std.proofs.Common.{position, ltb, refl, ap, ◌∙◌, ⊎_elim, arith, ◌||◌, [], ◌∷◌}
use Rattle.std.proofs.Common.{fold, max, zero, suc}
use Rattle.std.specs.List.{position_or_len, list_any}
use Rattle.std.proofs.lemmas.Bool.{cond-true, cond-false, lt-ltb, le-ltb, cases_lt}
use Rattle.std.proofs.lemmas.List.Sums.{position_or_len_is, fails_before_first}

pub or_false : (x : Bool) → (x || false) ≡ x
or_false true = refl
or_false false = refl

pub list_any_agree : {X : Type 0} (p q : X → Bool) → ((x : X) → p x ≡ q x) → (xs : List X)
    → list_any p xs ≡ list_any q xs
list_any_agree p q same [] = refl
list_any_agree p q same (x ∷ xs) =
    ap (λ t. t || list_any p xs) (same x) ∙ ap (λ t. q x || t) (list_any_agree p q same xs)

-- the largest value of a list, or the start
pub start-le-largest : {X : Type 0} (f : X → ℕ) (xs : List X) (a : ℕ) → a ≤ fold (λ most x. max most (f x)) a xs
start-le-largest f [] a = omega arith
start-le-largest f (x ∷ xs) a = omega (arith, start-le-largest f xs (max a (f x)))

pub value-le-largest : {X : Type 0} (f : X → ℕ) (xs : List X) (a i : ℕ) (d : X) → f d ≤ a
    → f (get_or xs i d) ≤ fold (λ most x. max most (f x)) a xs
value-le-largest f [] a i d low = low
value-le-largest f (x ∷ xs) a zero d low = omega (arith, start-le-largest f xs (max a (f x)))
value-le-largest f (x ∷ xs) a (suc i) d low = value-le-largest f xs (max a (f x)) i d (omega arith)

pub position_is : (p : ℕ → Bool) (xs : List ℕ) (i : ℕ) → i < length xs → p (get_or xs i 0) ≡ true
    → ((k : ℕ) → k < i → p (get_or xs k 0) ≡ false) → position p xs ≡ Some i
position_is p xs i below here before =
    ap (λ j. cond (ltb j (length xs)) (Some j) None) (position_or_len_is p xs i 0 (omega arith) before (λ _. here))
    ∙ cond-true _ _ _ (lt-ltb _ _ below)

pub position_none : (p : ℕ → Bool) (xs : List ℕ) → ((k : ℕ) → k < length xs → p (get_or xs k 0) ≡ false)
    → position p xs ≡ None
position_none p xs none =
    ap (λ j. cond (ltb j (length xs)) (Some j) None)
    (position_or_len_is p xs (length xs) 0 (omega arith) none (λ h. absurd (omega arith)))
    ∙ cond-false _ _ _ (le-ltb (length xs) (length xs) (omega arith))

pub position-None : (p : ℕ → Bool) (xs : List ℕ) → position p xs ≡ None → (k : ℕ) → k < length xs
    → p (get_or xs k 0) ≡ false
position-None p xs e k below =
    ⊎_elim
    (λ (inside : position_or_len p xs < length xs). absurd
    (let s : position p xs ≡ Some (position_or_len p xs) = cond-true _ _ _ (lt-ltb _ _ inside) in cc))
    (λ (past : length xs ≤ position_or_len p xs). fails_before_first p xs k 0 (omega arith))
    (cases_lt (position_or_len p xs) (length xs))
