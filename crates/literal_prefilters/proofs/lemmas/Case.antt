-- Bytes that are the same, ASCII case ignored or not.
-- For `raise_all`.
use Rattle.std.proofs.Common.{◌≡◌, ◌==◌, ℕ, ◌||◌, Bool, true, false, ap, ◌∙◌, arith}
use Rattle.std.proofs.lemmas.Bool.Decides.{nat_tests}
use Rattle.literal_base.specs.Bytes.{opposite_case}
use Rattle.literal_base.specs.Occurs.{same_byte}

same_byte_both : (b x : ℕ) → same_byte true b x ≡ (b == x || b == opposite_case x)
same_byte_both b x = grind (arith, nat_tests)

pub same_byte-ignored : (c : Bool) (b x : ℕ) → c ≡ true → same_byte c b x ≡ (b == x || b == opposite_case x)
same_byte-ignored c b x e = ap (λ c. same_byte c b x) e ∙ same_byte_both b x

pub same_byte-kept : (c : Bool) (b x : ℕ) → c ≡ false → same_byte c b x ≡ (b == x)
same_byte-kept c b x e = ap (λ c. same_byte c b x) e
