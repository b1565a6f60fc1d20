-- How the bits of the buckets that have more than two entries are set.
-- For `longer_of`.
use Rattle.std.proofs.Common.{◌≡◌, ◌≢◌, ℕ, ◌+◌, ◌*◌, ◌%◌, ◌^◌, ◌<◌, ◌≤◌, inl, inr, bit_or, cond, ltb, w64, List, sym}
use Rattle.std.proofs.Common.{ap, subst, ◌∙◌, arith}
use Rattle.std.specs.Int.{bit_at}
use Rattle.std.proofs.lemmas.Bool.{cases_eq, lt-ltb, le-ltb}
use Rattle.std.proofs.lemmas.Nat.Bits.{bit_at_set_same, bit_at_set_other}
use Rattle.literal_packed.specs.Inside.Entries.{len_at}

-- the bit of bucket k
abbrev pub bit_of : List ℕ → ℕ → ℕ
bit_of starts k = cond (ltb 2 (len_at starts k)) 1 0

-- the bits before b are those of their buckets, and the others are not set
pub record AreBitsBefore (starts : List ℕ) (b longer : ℕ) : Type 0 where
  pub before : (k : ℕ) → k < b → bit_at longer k ≡ bit_of starts k
  pub later : (k : ℕ) → b ≤ k → bit_at longer k ≡ 0

module _ (starts : List ℕ) (b old new : ℕ) (are : AreBitsBefore starts b old)
    (others : (k : ℕ) → k ≢ b → bit_at new k ≡ bit_at old k) (here : bit_at new b ≡ bit_of starts b) where
  -- one bit more
  bits_more : AreBitsBefore starts (b + 1) new
  bits_more = record {
    before = λ k before. elim (cases_eq k b) [
      | inl same ↦ subst (λ i. bit_at new i ≡ bit_of starts i) (sym same) here
      | inr other ↦ others k other ∙ are.before k (omega (arith, other))
    ];
    later = λ k later. others k (λ same. absurd (omega arith)) ∙ are.later k (omega arith);
  }

-- the bit of a bucket that has more entries is set
pub bits_set : (starts : List ℕ) (b old new : ℕ) → AreBitsBefore starts b old → b < 64
    → 2 < len_at starts b → new ≡ bit_or old (1 * 2 ^ b % 2 ^ 64)
    → AreBitsBefore starts (b + 1) new
bits_set starts b old new are within some is =
    bits_more starts b old new are (λ k other. ap (λ n. bit_at n k) is ∙ bit_at_set_other w64 old b within k other)
    (ap (λ n. bit_at n b) is ∙ (bit_at_set_same w64 old b within ∙ sym (ap (λ t. cond t 1 0) (lt-ltb _ _ some))))

-- and that of another stays as it is
pub bits_kept : (starts : List ℕ) (b old new : ℕ) → AreBitsBefore starts b old
    → len_at starts b ≤ 2 → new ≡ old → AreBitsBefore starts (b + 1) new
bits_kept starts b old new are none is =
    bits_more starts b old new are (λ k other. ap (λ n. bit_at n k) is)
    (ap (λ n. bit_at n b) is ∙ (are.later b (omega arith) ∙ sym (ap (λ t. cond t 1 0) (le-ltb _ _ none))))
