-- What has one type is one value of it.
-- For the walk of `Builder::extend`.
use Rattle.std.proofs.Common.{◌≡◌, List, [], ◌∷◌, refl}
use lib.Dec.{T}
use mir.Syntax.{Ty}
use mir.Val.{Val, WT, has_ty}
use denote.Laws.{Typed}

-- what has one type is one value of it
pub one : (τ : Ty) (vs : List Val) → Typed (τ ∷ []) vs → (v : Val) × (vs ≡ v ∷ []) × (T (has_ty τ v) × WT v)
one τ [] t = absurd t
one τ (v ∷ []) t = (v, refl, t.0)
one τ (v ∷ w ∷ vs) t = absurd t.1
