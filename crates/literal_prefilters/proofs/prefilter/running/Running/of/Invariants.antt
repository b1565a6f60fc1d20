use Rattle.std.proofs.Common.{take}
use Rattle.literal_prefilters.specs.Inside.Running.{IsRunning}
use Rattle.literal_prefilters.proofs.prefilter.running.Running.of.Given as goal

abbrev pub invariant-loop-id : goal.invariant-loop-id
invariant-loop-id l = IsRunning l.ignore_case (take l.id l.patterns.patterns) l.running
