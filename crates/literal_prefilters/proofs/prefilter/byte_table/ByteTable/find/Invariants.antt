use Rattle.std.proofs.Common.{◌≡◌, ◌+◌, ◌-◌}
use Rattle.literal_prefilters.proofs.lemmas.Callers.{IsFree}
use Rattle.literal_prefilters.proofs.prefilter.byte_table.ByteTable.find.Given as goal

abbrev pub invariant-loop-place : goal.invariant-loop-place
invariant-loop-place l = record {
  scanned : l.tally ≡ record l.initial.tally { scanned = l.initial.tally.scanned + (l.place - l.fn.span.start) };
  free : IsFree l.self l.haystack l.fn.span.start l.place;
}
