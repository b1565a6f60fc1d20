use Rattle.std.proofs.Common.{◌≡◌, take}
use Rattle.std.specs.List.{count_by}
use Rattle.litscan.proofs.lemmas.Passing.{is_end}
use Rattle.litscan.proofs.passed.count_few.Given as goal

abbrev pub invariant-loop-byte : goal.invariant-loop-byte
invariant-loop-byte l = l.count ≡ count_by (is_end l.line_end) (take l.byte-index l.bytes)
