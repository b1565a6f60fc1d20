use Rattle.std.proofs.Common.{◌≡◌, ◌*◌, length, take}
use Rattle.literal_rows.specs.Inside.Packed.{unpacked}
use Rattle.literal_rows.proofs.packed.unpack.Given as goal

abbrev pub invariant-loop-at : goal.invariant-loop-at
invariant-loop-at l = record {
  long : length l.bytes ≡ length l.initial.bytes;
  done : take (4 * l.at) l.bytes ≡ unpacked (take l.at l.numbers);
}
