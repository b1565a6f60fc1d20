-- The largest offset of a byte in a pattern, one offset more.
-- For `raise_all` and `Running`.
use Rattle.std.proofs.Common.{◌≡◌, ℕ, ◌+◌, ◌-◌, ◌<◌, ◌≤◌, ◌||◌, zero, suc, max, cond, Bool, true, false, List}
use Rattle.std.proofs.Common.{slice_index, add-one, ap, ◌∙◌, ⊎_elim, arith}
use Rattle.std.proofs.lemmas.Bool.{cases_Bool, cases_eq, cond-true, cond-false}
use Rattle.literal_base.specs.Occurs.{same_byte}
use Rattle.literal_prefilters.specs.Tables.{offset_below}

-- the offset is below the length, where there is one
pub offset_below-lt : (c : Bool) (b : ℕ) (p : List ℕ) (n : ℕ) → offset_below c b p n ≤ n - 1
offset_below-lt c b p zero = omega arith
offset_below-lt c b p (suc n) =
    ⊎_elim
    (λ (e : same_byte c b (slice_index p n) ≡ true). let is : offset_below c b p (suc n) ≡ n = cond-true _ _ _ e in
    omega arith)
    (λ (e : same_byte c b (slice_index p n) ≡ false). let is : offset_below c b p (suc n) ≡ offset_below c b p n =
    cond-false _ _ _ e in omega (arith, offset_below-lt c b p n))
    (cases_Bool (same_byte c b (slice_index p n)))

-- each offset at which the byte stands is at most that one
pub offset-le-offset_below : (c : Bool) (b : ℕ) (p : List ℕ) (n k : ℕ) → k < n → same_byte c b (slice_index p k) ≡ true
    → k ≤ offset_below c b p n
offset-le-offset_below c b p zero k below here = absurd (omega arith)
offset-le-offset_below c b p (suc n) k below here =
    ⊎_elim
    (λ (e : same_byte c b (slice_index p n) ≡ true). let is : offset_below c b p (suc n) ≡ n = cond-true _ _ _ e in
    omega arith)
    (λ (e : same_byte c b (slice_index p n) ≡ false).
    let is : offset_below c b p (suc n) ≡ offset_below c b p n = cond-false _ _ _ e in
    ⊎_elim
    (λ (same : k ≡ n). absurd (let no : same_byte c b (slice_index p k) ≡ false = ap
    (λ j. same_byte c b (slice_index p j)) same ∙ e in cc))
    (λ (other : k ≡ n → ⊥). omega (arith, offset-le-offset_below c b p n k (omega arith) here))
    (cases_eq k n))
    (cases_Bool (same_byte c b (slice_index p n)))

pub offset_below-more : (c : Bool) (b : ℕ) (p : List ℕ) (n start old new : ℕ) → old ≡ max start (offset_below c b p n)
    → new ≡ cond (same_byte c b (slice_index p n)) (max old n) old → new ≡ max start (offset_below c b p (n + 1))
offset_below-more c b p n start old new was now =
    rw add-one (⊎_elim
    (λ (e : same_byte c b (slice_index p n) ≡ true).
    let is : offset_below c b p (suc n) ≡ n = cond-true _ _ _ e in
    let value : new ≡ max old n = now ∙ cond-true _ _ _ e in omega (arith, offset_below-lt c b p n))
    (λ (e : same_byte c b (slice_index p n) ≡ false).
    let is : offset_below c b p (suc n) ≡ offset_below c b p n = cond-false _ _ _ e in
    let value : new ≡ old = now ∙ cond-false _ _ _ e in omega arith)
    (cases_Bool (same_byte c b (slice_index p n))))

-- raised at either of two tests
pub raised_twice : (s t : Bool) (n old one new : ℕ) → one ≡ cond s (max old n) old → new ≡ cond t (max one n) one
    → new ≡ cond (s || t) (max old n) old
raised_twice true true n old one new first second = omega arith
raised_twice true false n old one new first second = omega arith
raised_twice false true n old one new first second = omega arith
raised_twice false false n old one new first second = omega arith
