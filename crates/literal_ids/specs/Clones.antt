-- Clones of plain values.
use Rattle.std.specs.Prelude.{◌≡◌}

-- each clone is the same value, and cloning never fails. The arguments say which values are clones of a value, and
-- which values can always be cloned
pub record ClonesExactly {A : Type 0} (is_clone : A → A → Type 0) (is_infallible : A → Type 0) : Type 0 where
  pub same : (value clone : A) → is_clone value clone → clone ≡ value
  pub succeeds : (value : A) → is_infallible value
