use Rattle.std.proofs.Common.{arith}
use Rattle.literal_leftmost.specs.Inside.Backward.{back_tables_by}
use Rattle.literal_leftmost.proofs.lemmas.Leftmost.{first_on, lane_small}
use Rattle.literal_leftmost.proofs.backward.Backward.go_on.Goals as goal

pub returns-then-code-limit-clause-lane : goal.returns-then-code-limit-clause-lane
returns-then-code-limit-clause-lane c = λ search is haystack span end to to_is step.
    lane_small (back_tables_by search c.args.self.now) haystack span end to c.args.code
    (omega (arith, c.requires.limit.is, c.if-code-limit.true)) step

pub returns-then-code-limit-clause-first : goal.returns-then-code-limit-clause-first
returns-then-code-limit-clause-first c = λ search is haystack span end next to upto next_is to_is before step first.
    grind (arith, first_on)

pub returns-then-on-limit-clause-lane : goal.returns-then-on-limit-clause-lane
returns-then-on-limit-clause-lane c = λ search is haystack span end to to_is step.
    let row = step.lane.stands.fits in
    omega (arith, row, c.requires.limit.is, c.if-on-limit.true)

pub returns-then-on-limit-clause-first : goal.returns-then-on-limit-clause-first
returns-then-on-limit-clause-first c = λ search is haystack span end next to upto next_is to_is before step first.
    let row = step.lane.stands.fits in
    absurd (omega (arith, row, c.requires.limit.is, c.if-on-limit.true))

pub returns-clause-lane : goal.returns-clause-lane
returns-clause-lane c = λ search is haystack span end to to_is step. step.lane

pub returns-clause-first : goal.returns-clause-first
returns-clause-first c = λ search is haystack span end next to upto next_is to_is before step first.
    grind (arith, first_on)
