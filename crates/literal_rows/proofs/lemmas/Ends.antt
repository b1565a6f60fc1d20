-- Where a text is a pattern.
use Rattle.std.proofs.lemmas.Grind.{common_steps}
use Rattle.std.proofs.Common.{◌≡◌, ℕ, ◌≤◌, ◌&&◌, true, List, [], length, nat_eq, append-nil, refl, sym, ◌∙◌, arith}
use Rattle.std.proofs.lemmas.Bool.Decides.{Decides-eqb}
use Rattle.std.proofs.lemmas.Slice.Eq.{starts_is}
use Rattle.std.specs.List.{starts_with}

-- what is a prefix of a text and is as long is the text
pub whole_if_long : (text pattern : List ℕ) → starts_with nat_eq text pattern ≡ true → length text ≤ length pattern
    → text ≡ pattern
whole_if_long text pattern is long =
    let split = (starts_is Decides-eqb text pattern _ refl).0 is in
    grind (arith, common_steps, append-nil)

pub equal_if : (text pattern : List ℕ) → text ≡ pattern
    → (starts_with nat_eq pattern text && starts_with nat_eq text pattern) ≡ true
equal_if text pattern same =
    let one : starts_with nat_eq pattern text ≡ true =
    (starts_is Decides-eqb pattern text _ refl).1 [] (sym same ∙ sym (append-nil text)) in
    grind (arith, append-nil)
