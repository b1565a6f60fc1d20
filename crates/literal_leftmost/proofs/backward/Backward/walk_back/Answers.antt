use Rattle.std.proofs.Common.{◌≡◌, ◌+◌, ◌-◌, arith, refl}
use Rattle.std.proofs.lemmas.Bool.{cases_lt}
use Rattle.literal_leftmost.proofs.lemmas.Backward.{ticked_on}
use Rattle.literal_leftmost.proofs.lemmas.Leftmost.{lane_begins}
use Rattle.literal_leftmost.proofs.backward.Backward.walk_back.Goals as goal

pub loop-at-init : goal.loop-at-init
loop-at-init c = grind (arith, cases_lt, lane_begins)

pub returns-in_err-code-clause-lane : goal.returns-in_err-code-clause-lane
returns-in_err-code-clause-lane c = λ search is.
    let next : c.loop-at.at ≡ (c.loop-at.at - 1) + 1 = omega arith in
    absurd (c.in_err-code.ensures.step search is c.args.span c.args.end c.loop-at.at (c.loop-at.at - 1)
    c.requires.valid.in_haystack next refl (c.loop-at.invariant.lane search is))

pub loop-at-preserved : goal.loop-at-preserved
loop-at-preserved c = grind (arith, ticked_on)
