use Rattle.std.proofs.Common.{arith}
use Rattle.literal_fingerprints.proofs.lemmas.Lanes.{first_stops, first_zeros, none_set}
use Rattle.literal_fingerprints.proofs.lanes.first_set.Goals as goal

pub returns-then-set-eq0-clause-none : goal.returns-then-set-eq0-clause-none
returns-then-set-eq0-clause-none c is = none_set 16 (omega arith) c.args.lanes c.fits-lanes.0 c.if-set-eq0.true

pub returns-then-first-lt-LANES-clause-zero : goal.returns-then-first-lt-LANES-clause-zero
returns-then-first-lt-LANES-clause-zero c = first_zeros 16 (omega arith) c.args.lanes c.fits-lanes.0 c.if-set-eq0.false

pub returns-then-first-lt-LANES-clause-stops : goal.returns-then-first-lt-LANES-clause-stops
returns-then-first-lt-LANES-clause-stops c =
    first_stops 16 (omega arith) c.args.lanes c.fits-lanes.0 c.if-set-eq0.false c.if-first-lt-LANES.true

pub returns-else-first-lt-LANES-clause-none : goal.returns-else-first-lt-LANES-clause-none
returns-else-first-lt-LANES-clause-none c is k below =
    first_zeros 16 (omega arith) c.args.lanes c.fits-lanes.0 c.if-set-eq0.false k
    (omega (arith, below, c.if-first-lt-LANES.false))
