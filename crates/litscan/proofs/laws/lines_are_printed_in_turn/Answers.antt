use Rattle.std.proofs.Common.{◌+◌, length, arith}
use Rattle.std.specs.List.{flat_map}
use Rattle.litscan.specs.Lines.{with_end}
use Rattle.litscan.proofs.lemmas.Printing.{prints_in_turn}
use Rattle.litscan.proofs.laws.lines_are_printed_in_turn.Goals as goal

pub returns : goal.returns
returns c = λ search options front more name line out printed.
    prints_in_turn search options name 1 0 (length front + 1)
    (length (flat_map (with_end options.line_end) front)) front more line out
    (omega arith) (omega arith) printed
