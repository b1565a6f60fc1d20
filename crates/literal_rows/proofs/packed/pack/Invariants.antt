use Rattle.std.proofs.Common.{◌≡◌, length, take}
use Rattle.literal_rows.specs.Inside.Packed.{packed}
use Rattle.literal_rows.proofs.packed.pack.Given as goal

abbrev pub invariant-loop-at : goal.invariant-loop-at
invariant-loop-at l = record {
  long : length l.numbers ≡ length l.initial.numbers;
  done : take l.at l.numbers ≡ packed l.at l.bytes;
}
