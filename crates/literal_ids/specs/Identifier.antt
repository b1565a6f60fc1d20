-- Numbers as identifiers.
use Rattle.std.specs.Prelude.{◌≡◌, ℕ, ◌<◌, ◌≤◌, ◌↔◌, Bool, List, Option, Some, Result, IsTrue, MatchResult}
use Rattle.std.specs.Hash.{u32}
use Rattle.std.specs.Ordering.{nat_cmp}
use Rattle.std.specs.declared.cmp.Ordering.{Ordering}

-- the answer for a number up to 2147483646 is the small index or identifier with it; for a larger one, an error that
-- keeps it
abbrev pub IsCheckedNumber : ℕ → Result ℕ ℕ → Type 0
IsCheckedNumber number answer =
    MatchResult answer (λ id. (number ≤ 2147483646) × (id ≡ number))
    (λ refused. (2147483646 < number) × (refused ≡ number))

-- identifiers are equal and ordered as their numbers are. Each writes its number to a hasher as a `u32`, so equal ones
-- write the same
pub record IsComparedByNumber (eq : ℕ → ℕ → Bool) (partial_cmp : ℕ → ℕ → Option Ordering) (cmp : ℕ → ℕ → Ordering)
    (hash_input : ℕ → List (List ℕ)) : Type 0 where
  pub equal : (a b : ℕ) → IsTrue (eq a b) ↔ (a ≡ b)
  pub partial_order : (a b : ℕ) → partial_cmp a b ≡ Some (nat_cmp a b)
  pub order : (a b : ℕ) → cmp a b ≡ nat_cmp a b
  pub hash : (a b : ℕ) → IsTrue (eq a b) → hash_input a ≡ hash_input b
  pub writes : (a : ℕ) → hash_input a ≡ u32 a
