use Rattle.std.proofs.Common.{◌≡◌, take}
use Rattle.literal_rows.specs.Inside.Classes.{symbols_in}
use Rattle.literal_rows.proofs.prefixes.symbols_of.Given as goal

abbrev pub invariant-loop-byte : goal.invariant-loop-byte
invariant-loop-byte l = l.symbols.items ≡ symbols_in l.classes (take l.byte-index l.bytes)
