use Rattle.std.proofs.Common.{◌≡◌, ℕ, max, slice_index}
use Rattle.literal_prefilters.specs.Tables.{offset_below}
use Rattle.literal_prefilters.proofs.prefilter.tables.raise_all.Given as goal

abbrev pub invariant-loop-offset : goal.invariant-loop-offset
invariant-loop-offset l =
    (b : ℕ) → slice_index l.offsets b ≡ max (slice_index l.initial.offsets b)
    (offset_below l.ignore_case b l.pattern l.offset)
