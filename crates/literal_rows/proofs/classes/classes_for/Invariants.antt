use Rattle.std.proofs.Common.{◌≡◌, ◌<◌, ℕ, false, get_or, length, map, true}
use Rattle.std.specs.Global.{Vec}
use Rattle.literal_base.specs.Occurs.{pattern_at}
use Rattle.literal_rows.specs.Inside.Classes.{IsFoldOfOne, Marks}
use Rattle.literal_rows.proofs.classes.classes_for.Given as goal

abbrev pub invariant-loop-pattern : goal.invariant-loop-pattern
invariant-loop-pattern l = record {
  each : length l.seen ≡ 256;
  marks : (i : ℕ) (d : Vec ℕ) → i < l.pattern-index → Marks l.ignore_case l.seen (get_or l.patterns i d).items;
  only : (b : ℕ) → get_or l.seen b false ≡ true
      → (i : ℕ) × (i < l.pattern-index) × IsFoldOfOne l.ignore_case
      (pattern_at (map (λ (p : Vec ℕ). p.items) l.patterns) i) b;
}
