use Rattle.std.proofs.Common.{◌≡◌, fold, take, slice_index}
use Rattle.literal_prefilters.specs.Tables.{rarer}
use Rattle.literal_prefilters.proofs.prefilter.tables.rarest.Given as goal

abbrev pub invariant-loop-byte : goal.invariant-loop-byte
invariant-loop-byte l = l.best ≡ fold rarer (slice_index l.pattern 0) (take l.byte-index l.pattern)
