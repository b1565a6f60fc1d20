use Rattle.std.proofs.Common.{◌≡◌, drop}
use Rattle.std.specs.List.{fold}
use Rattle.std.specs.Prelude.{min}
use Rattle.literal_c.proofs.info.shortest.Given as goal

abbrev pub invariant-loop-len : goal.invariant-loop-len
invariant-loop-len l = fold min l.least (drop l.len-index l.others) ≡ fold min l.initial.least l.others
