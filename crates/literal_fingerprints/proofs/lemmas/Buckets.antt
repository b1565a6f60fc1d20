-- Bits that stay set, and lists of which one element is replaced.
use Rattle.std.proofs.Common.{◌≡◌, ◌<◌, ◌∙◌, List, arith, bit_or, get_or, inl, inr, length, max, set, subst, sym, ℕ}
use Rattle.std.proofs.lemmas.Bool.{cases_eq}
use Rattle.std.proofs.lemmas.Grind.{get_or-set_at}
use Rattle.std.proofs.lemmas.List.{get_or-set_other}
use Rattle.std.proofs.lemmas.Nat.Bits.{bit_at-lt, bit_at_or}
use Rattle.std.specs.Int.{bit_at}

-- what holds of the new element at its place, and of each other where it stands, holds of each
pub set_has : {X : Type 0} (P : X → Type 0) (xs : List X) (i : ℕ) (y d : X) → i < length xs → (k : ℕ) → (k ≡ i → P y)
    → (¬ k ≡ i → P (get_or xs k d)) → P (get_or (set xs i y) k d)
set_has P xs i y d below k here other = elim (cases_eq k i) [
  | inl same ↦ subst P (sym (get_or-set_at xs i k y d same below)) (here same)
  | inr apart ↦ subst P (sym (get_or-set_other xs i k y d apart)) (other apart)
]

-- a bit that is set in a number is set in one with more bits
pub bit_kept : (n m i : ℕ) → bit_at n i ≡ 1 → bit_at (bit_or n m) i ≡ 1
bit_kept n m i is =
    let most : max (bit_at n i) (bit_at m i) ≡ 1 = omega (arith, is, bit_at-lt m i) in
    bit_at_or n m i ∙ most
