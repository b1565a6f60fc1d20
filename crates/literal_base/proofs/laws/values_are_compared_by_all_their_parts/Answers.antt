use Rattle.std.proofs.Common.{◌≡◌, Bool, true, false, refl, sym}
use Rattle.std.specs.Bool.{beq, Decides}
use Rattle.std.proofs.lemmas.Slice.Eq.{slice_eq-Decides}
use Rattle.literal_base.proofs.laws.values_are_compared_by_all_their_parts.Goals as goal

beq_decides : (a b : Bool) → Decides (beq a b) (a ≡ b)
beq_decides true true = (λ _. refl, λ _. refl)
beq_decides true false = (λ e. sym e, λ e. sym e)
beq_decides false true = (λ e. e, λ e. e)
beq_decides false false = (λ _. refl, λ _. refl)

pub returns-clause-set : goal.returns-clause-set
returns-clause-set c = λ a b. slice_eq-Decides beq_decides a b _ refl
