use Rattle.std.proofs.Common.{◌≡◌, ◌-◌, [], length}
use Rattle.std.specs.Io.KnownBytes.{Keeps}
use Rattle.literal_folding.specs.Inside.Blocks.{IsSound, held, ready, rest_of}
use Rattle.literal_folding.proofs.block.Block.fill.Given as goal

-- none is ready, and nothing is lost
abbrev pub invariant-reading : goal.invariant-reading
invariant-reading g l = record {
  sound : IsSound l.self;
  none : ready l.self ≡ [];
  keeps : Keeps (rest_of l.fn.self (g.R.Read.remaining l.fn.reader)) (rest_of l.self (g.R.Read.remaining l.reader));
}

abbrev pub decreases-reading : goal.decreases-reading
decreases-reading g l = 4 - length (held l.self)
