use Rattle.std.proofs.Common.{◌≡◌, ◌++◌, take}
use Rattle.literal_rows.proofs.array.push_starts.Given as goal

abbrev pub invariant-loop-start : goal.invariant-loop-start
invariant-loop-start l = l.numbers.items ≡ l.fn.numbers.items ++ take l.start-index l.starts
