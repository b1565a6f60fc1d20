use Rattle.std.proofs.Common.{◌≡◌, take}
use Rattle.literal_base.specs.Classes.{marks_of}
use Rattle.test_contracts.proofs.classes.classes_of.Given as goal

abbrev pub invariant-loop-start : goal.invariant-loop-start
invariant-loop-start l = l.set ≡ marks_of (take l.start-index l.ranges)
