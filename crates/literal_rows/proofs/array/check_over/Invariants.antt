use Rattle.std.proofs.Common.{◌≡◌, take}
use Rattle.std.specs.List.{fold}
use Rattle.literal_rows.specs.Arrays.{Checks, checks_with}
use Rattle.literal_rows.proofs.lemmas.Check.{at_first}
use Rattle.literal_rows.proofs.array.check_over.Given as goal

abbrev pub invariant-loop-number : goal.invariant-loop-number
invariant-loop-number l =
    (let four : Checks = record { first = l.first; second = l.second; third = l.third; fourth = l.fourth } in four)
    ≡ fold checks_with at_first (take l.number-index l.numbers)
