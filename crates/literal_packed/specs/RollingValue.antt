-- A rolling sum as contracts see it.
use Rattle.std.specs.Prelude.{ℕ}

-- a `Rolling` as contracts see it: the length of its window, and the sum
pub record RollingValue : Type 0 where
  pub window : ℕ
  pub sum : ℕ
