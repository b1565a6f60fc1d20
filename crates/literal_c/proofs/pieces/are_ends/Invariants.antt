use Rattle.std.proofs.Common.{◌↔◌, drop}
use Rattle.literal_c.specs.Pieces.{AreEnds}
use Rattle.literal_c.proofs.pieces.are_ends.Given as goal

-- whether the rest can be cut decides of the whole
abbrev pub invariant-loop-end : goal.invariant-loop-end
invariant-loop-end l = AreEnds l.len 0 l.ends ↔ AreEnds l.len l.from (drop l.end-index l.ends)
