-- Sets of buckets, as bits of numbers.
use Rattle.std.proofs.Common.{◌≡◌, ◌≢◌, ℕ, ◌∙◌, IsTrue, not, ap, arith, bit_and, bit_or}
use Rattle.std.proofs.Common.{sym}
use Rattle.std.proofs.lemmas.Bool.Decides.{nat_tests}
use Rattle.std.proofs.lemmas.Nat.{and_assoc, and_comm}
use Rattle.std.proofs.lemmas.Nat.Bits.{bit_at-lt, bit_at_or, bit_at_xor, same_from_bits}
use Rattle.std.specs.Int.Bits.{and_self, and_zero_r, bit_xor}
use Rattle.std.specs.Prelude.{nat_eq}

pub is_some : (a : ℕ) → IsTrue (not (nat_eq a 0)) → a ≢ 0
is_some a e none = grind (arith, nat_tests)

pub meets : (a b c d : ℕ) → a ≡ c → b ≡ d → bit_and a b ≡ bit_and c d
meets a b c d one other = ap (λ x. bit_and x b) one ∙ ap (bit_and c) other

-- each bucket of one set is in the other
abbrev pub IsWithin : ℕ → ℕ → Type 0
IsWithin a b = bit_and a b ≡ a

pub left_within : (a b : ℕ) → IsWithin (bit_and a b) a
left_within a b =
    ap (λ x. bit_and x a) (and_comm a b) ∙ (and_assoc a b a ∙ (ap (bit_and b) (and_self a) ∙ and_comm b a))

pub right_within : (a b : ℕ) → IsWithin (bit_and a b) b
right_within a b = and_assoc b a b ∙ ap (bit_and a) (and_self b)

pub both_within : (a b c d : ℕ) → IsWithin a c → IsWithin b d → IsWithin (bit_and a b) (bit_and c d)
both_within a b c d one other =
    let swapped : bit_and b (bit_and c d) ≡ bit_and c b =
    sym (and_assoc d b c) ∙ (ap (λ x. bit_and x d) (and_comm b c) ∙ (and_assoc d c b ∙ ap (bit_and c) other)) in
    and_assoc (bit_and c d) a b
    ∙ (ap (bit_and a) swapped ∙ (sym (and_assoc b a c) ∙ ap (λ x. bit_and x b) one))

pub some_within : (a b : ℕ) → IsWithin a b → a ≢ 0 → b ≢ 0
some_within a b within some none = some (sym within ∙ (ap (bit_and a) none ∙ and_zero_r a))

pub within : (a b c : ℕ) → IsWithin a b → IsWithin b c → IsWithin a c
within a b c one other =
    ap (λ x. bit_and x c) (sym one) ∙ (and_assoc c a b ∙ (ap (bit_and a) other ∙ one))

-- what is in two sets is in what they share
pub both_of : (a b c : ℕ) → IsWithin a b → IsWithin a c → IsWithin a (bit_and b c)
both_of a b c one other = sym (and_assoc c a b) ∙ (ap (λ x. bit_and x c) one ∙ other)

-- bits in which two numbers differ, set in one and in the other
pub same_once_set : (a b : ℕ) → bit_or a (bit_xor b a) ≡ bit_or b (bit_xor b a)
same_once_set a b = same_from_bits _ _ (λ i. omega (
  arith,
  bit_at_or a (bit_xor b a) i,
  bit_at_or b (bit_xor b a) i,
  bit_at_xor b a i,
  bit_at-lt a i,
  bit_at-lt b i,
))

-- sets of two and two, in another order
pub crossed : (a b c d : ℕ) → bit_and (bit_and a b) (bit_and c d) ≡ bit_and (bit_and a c) (bit_and b d)
crossed a b c d =
    and_assoc (bit_and c d) a b
    ∙ (ap (bit_and a) (sym (and_assoc d b c) ∙ (ap (λ x. bit_and x d) (and_comm b c) ∙ and_assoc d c b))
    ∙ sym (and_assoc (bit_and b d) a c))
