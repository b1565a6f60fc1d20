use Rattle.std.proofs.Common.{◌≡◌, ◌<◌, ℕ, false, length, slice_index, slice_index_or}
use Rattle.std.specs.List.{list_any}
use Rattle.literal_base.specs.Classes.{alphabet_len_of, holds}
use Rattle.test_contracts.proofs.classes.classes_inside.Given as goal

abbrev pub invariant-loop-index : goal.invariant-loop-index
invariant-loop-index l = record {
  len : length l.inside.items ≡ alphabet_len_of l.classes;
  each : (b : ℕ) → b < l.index
      → slice_index_or l.inside.items (slice_index l.classes b) false ≡ list_any (λ range. holds range b) l.ranges;
}
