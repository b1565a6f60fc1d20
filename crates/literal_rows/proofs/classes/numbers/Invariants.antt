use Rattle.std.proofs.Common.{◌≡◌, take}
use Rattle.std.specs.List.{count_by}
use Rattle.literal_rows.specs.Inside.Classes.{AreNumbers}
use Rattle.literal_rows.proofs.classes.numbers.Given as goal

abbrev pub invariant-loop-byte : goal.invariant-loop-byte
invariant-loop-byte l = record {
  numbers : AreNumbers l.seen l.table l.byte l.next;
  count : l.next ≡ count_by (λ is_seen. is_seen) (take l.byte l.seen);
}
