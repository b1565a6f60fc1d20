use Rattle.std.proofs.Common.{◌≡◌, List, map, take}
use Rattle.std.specs.List.{flat_map}
use Rattle.litscan.specs.Request.{ChoiceValue, value_of_choice}
use Rattle.litscan.specs.Walk.{AreReplaced}
use Rattle.litscan.proofs.walk.with_patterns.Given as goal

-- the choices so far are replaced by those that were added
abbrev pub invariant-loop-choice : goal.invariant-loop-choice
invariant-loop-choice l = record {
  parts : List (List ChoiceValue);
  are : AreReplaced (map value_of_choice (take l.choice-index l.choices)) parts;
  all_are : map value_of_choice l.all.items ≡ flat_map (λ part. part) parts;
}
