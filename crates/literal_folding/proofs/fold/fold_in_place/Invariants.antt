-- The bytes from the index on are folded, as if no others came before; the others are as they were.
use Rattle.std.proofs.Common.{◌≡◌, ◌++◌, take, drop}
use Rattle.literal_folding.specs.Folding.{folded}
use Rattle.literal_folding.proofs.fold.fold_in_place.Given as goal

abbrev pub invariant-loop-at : goal.invariant-loop-at
invariant-loop-at l = l.text ≡ take l.at l.fn.text ++ folded (drop l.at l.fn.text)
