-- A match, as contracts see it.
use Rattle.std.specs.Prelude.{ℕ}

-- a `Match` as contracts see it: the number of a pattern, the offset of its first byte, and the offset after its last
-- byte
pub record MatchValue : Type 0 where
  pub pattern : ℕ
  pub start : ℕ
  pub end : ℕ
