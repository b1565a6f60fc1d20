use Rattle.std.proofs.Common.{◌≡◌, take}
use Rattle.std.specs.List.{range_with_len}
use Rattle.literal_rows.specs.Inside.Prefixes.{numbers_in, symbols_in_order}
use Rattle.literal_rows.specs.Inside.Shadowed.{texts_by}
use Rattle.literal_rows.proofs.prefixes.with_numbers.Given as goal

abbrev pub invariant-loop-number : goal.invariant-loop-number
invariant-loop-number l = record {
  words : symbols_in_order l.all.items ≡ texts_by l.classes (take l.number l.patterns);
  numbers : numbers_in l.all.items ≡ range_with_len 0 l.number;
}
