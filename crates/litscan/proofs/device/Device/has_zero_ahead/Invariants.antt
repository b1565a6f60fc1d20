use Rattle.std.proofs.Common.{◌≡◌}
use Rattle.std.specs.Io.KnownBytes.{Keeps}
use Rattle.litscan.proofs.device.Device.has_zero_ahead.Given as goal

-- no read so far consumed anything, and no failure is recorded for any
abbrev pub invariant-loop : goal.invariant-loop
invariant-loop g l = record {
  kept : Keeps (g.R.Read.remaining l.fn.self.inner) (g.R.Read.remaining l.self-inside.inner);
  same : l.self-inside.failure ≡ l.fn.self.failure;
}
