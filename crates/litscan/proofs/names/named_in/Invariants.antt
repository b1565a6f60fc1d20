use Rattle.std.proofs.Common.{◌≡◌, drop, map}
use Rattle.litscan.specs.Names.{named_in, value_of_named}
use Rattle.litscan.proofs.names.named_in.Given as goal

abbrev pub invariant-loop-entry : goal.invariant-loop-entry
invariant-loop-entry l =
    named_in (map value_of_named l.table) l.name ≡ named_in (map value_of_named (drop l.entry-index l.table)) l.name
