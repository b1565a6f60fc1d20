use Rattle.std.proofs.Common.{◌≡◌, drop, map}
use Rattle.litscan.specs.Names.{shortened_in, value_of_named}
use Rattle.litscan.proofs.names.shortened_in.Given as goal

abbrev pub invariant-loop-i : goal.invariant-loop-i
invariant-loop-i l =
    shortened_in l.at l.start (map value_of_named l.table)
    ≡ shortened_in l.at l.start (map value_of_named (drop l.i l.table))
