use Rattle.std.proofs.Common.{◌≡◌, ◌++◌, List, map}
use Rattle.std.specs.List.{All}
use Rattle.litscan.specs.Request.{ChoiceValue, value_of_choice}
use Rattle.litscan.specs.Walk.{Excludes}
use Rattle.litscan.proofs.walk.add_patterns.Given as goal

abbrev pub invariant-loop-line : goal.invariant-loop-line
invariant-loop-line l = record {
  part : List ChoiceValue;
  exclude : All Excludes part;
  added : map value_of_choice l.all.items ≡ map value_of_choice l.fn.all.items ++ part;
}
