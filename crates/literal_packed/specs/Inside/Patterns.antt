-- The fields of `Patterns`.
use Rattle.std.specs.Prelude.{◌≡◌, ◌≤◌, ◌*◌, ◌^◌, map, length}
use Rattle.literal_packed.specs.declared.pattern.Patterns.TheInside.{Inside}
use Rattle.literal_packed.specs.PatternsValue.{PatternsValue, IsWellFormed, minimum_len_of, total_len}

-- `Patterns` as callers see them
abbrev pub patterns_value : Inside → PatternsValue
patterns_value a =
    record { kind = a.kind; patterns = map (λ v. v.items) a.by_id.items; order = a.order.items }

-- the invariant of `Patterns`
pub record IsConsistent (a : Inside) : Type 0 where
  pub well_formed : IsWellFormed (patterns_value a)
  pub shortest : a.minimum_len ≡ minimum_len_of (patterns_value a).patterns
  pub total : a.total_pattern_bytes ≡ total_len (patterns_value a).patterns
  pub bound : a.total_pattern_bytes ≤ length (patterns_value a).patterns * 2 ^ 64
