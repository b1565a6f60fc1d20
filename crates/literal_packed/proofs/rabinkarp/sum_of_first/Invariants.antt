use Rattle.std.proofs.Common.{◌≡◌, ◌+◌, take}
use Rattle.literal_packed.specs.Sum.{sum_of}
use Rattle.literal_packed.proofs.rabinkarp.sum_of_first.Given as goal

abbrev pub invariant-loop-byte : goal.invariant-loop-byte
invariant-loop-byte l = record {
  sum : l.rolling.sum ≡ sum_of (take l.byte-index l.byte-items);
  counted : l.tally ≡ record l.initial.tally { hashed = l.initial.tally.hashed + l.byte-index };
}
