use Rattle.std.proofs.Common.{◌≡◌, drop, map}
use Rattle.litscan.specs.Names.{one_differs, value_of_named}
use Rattle.litscan.proofs.names.one_differs.Given as goal

abbrev pub invariant-loop-entry : goal.invariant-loop-entry
invariant-loop-entry l =
    one_differs l.option l.start (map value_of_named l.table)
    ≡ one_differs l.option l.start (map value_of_named (drop l.entry-index l.table))
