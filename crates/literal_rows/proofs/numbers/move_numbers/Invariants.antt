use Rattle.std.proofs.Common.{◌≡◌, ◌≤◌, length}
use Rattle.std.specs.List.{splice}
use Rattle.literal_rows.proofs.numbers.move_numbers.Given as goal

abbrev pub decreases-loop-rest : goal.decreases-loop-rest
decreases-loop-rest l = length l.rest.items

-- the numbers that are left, written to the first entries, make the array what it has to be
abbrev pub invariant-loop-rest : goal.invariant-loop-rest
invariant-loop-rest l = record {
  fits : length l.rest.items ≤ length l.array;
  same : splice l.array 0 (length l.rest.items) l.rest.items
      ≡ splice l.fn.array 0 (length l.fn.numbers.items) l.fn.numbers.items;
}
