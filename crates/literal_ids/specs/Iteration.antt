-- Iterations that end.
use Rattle.std.specs.Prelude.{◌≡◌, List, [], ◌∷◌, Option, None, IsSomeAnd}

-- a call of `next` gives the first element that is left, and leaves the others; if nothing is left, it gives None, and
-- nothing is left afterwards. `view` shows the list of what is left
pub record GivesEachThenNone {A B : Type 0} (view : A → B)
    (next_gives : List B → Option A → List B → Type 0) : Type 0 where
  pub each : (x : B) (more : List B) (item : Option A) (left : List B) → next_gives (x ∷ more) item left
      → IsSomeAnd item (λ a. view a ≡ x) × (left ≡ more)
  pub ended : (item : Option A) (left : List B) → next_gives [] item left → (item ≡ None) × (left ≡ [])
