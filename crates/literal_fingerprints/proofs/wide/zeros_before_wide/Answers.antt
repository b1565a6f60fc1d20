use Rattle.std.proofs.Common.{arith}
use Rattle.literal_fingerprints.proofs.lemmas.Lanes.{first_few, first_stops, first_zeros, none_set}
use Rattle.literal_fingerprints.proofs.wide.zeros_before_wide.Goals as goal

pub returns-then-set-eq0-clause-zero : goal.returns-then-set-eq0-clause-zero
returns-then-set-eq0-clause-zero c = none_set 32 (omega arith) c.args.lanes c.fits-lanes.0 c.if-set-eq0.true

pub returns-else-set-eq0-clause-few : goal.returns-else-set-eq0-clause-few
returns-else-set-eq0-clause-few c = first_few 32 (omega arith) c.args.lanes c.fits-lanes.0 c.if-set-eq0.false

pub returns-else-set-eq0-clause-zero : goal.returns-else-set-eq0-clause-zero
returns-else-set-eq0-clause-zero c = first_zeros 32 (omega arith) c.args.lanes c.fits-lanes.0 c.if-set-eq0.false

pub returns-else-set-eq0-clause-stops : goal.returns-else-set-eq0-clause-stops
returns-else-set-eq0-clause-stops c = first_stops 32 (omega arith) c.args.lanes c.fits-lanes.0 c.if-set-eq0.false
