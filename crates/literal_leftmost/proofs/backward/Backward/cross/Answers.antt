use Rattle.std.proofs.Common.{◌-◌, ap, arith, refl}
use Rattle.literal_base.specs.Counts.{Counts}
use Rattle.literal_leftmost.specs.Inside.Backward.{back_tables_by}
use Rattle.literal_leftmost.proofs.lemmas.Backward.{ticked_on}
use Rattle.literal_leftmost.proofs.lemmas.Leftmost.{none_more}
use Rattle.literal_leftmost.proofs.backward.Backward.cross.Goals as goal

pub returns-in_err-code-clause-lane : goal.returns-in_err-code-clause-lane
returns-in_err-code-clause-lane c = λ search is end lane.
    absurd (c.in_err-code.ensures.step search is c.args.span end c.loop-at.at (c.loop-at.at - 1)
    c.requires.valid.in_haystack (omega arith) refl (c.loop-at.invariant.lane search is end lane))

pub loop-at-preserved : goal.loop-at-preserved
loop-at-preserved c =
    let at = c.loop-at.at - 1 in
    let ticks = c.in_ok-code.ensures.ticks in
    let valid = c.requires.valid.in_haystack in
    let so_far = c.loop-at.invariant in
    record {
      after = omega arith;
      inside = omega arith;
      row = c.in_ok-code.ensures.leads;
      lane = λ search is end lane. (c.in_ok-code.ensures.step search is c.args.span end c.loop-at.at at valid
          (omega arith) refl (so_far.lane search is end lane)).lane;
      none = λ search is end before lane small.
          none_more (back_tables_by search c.args.self.now) c.args.haystack.now c.args.span end at c.in_ok-code.code
          (omega (arith, before, so_far.inside))
          (c.in_ok-code.ensures.step search is c.args.span end c.loop-at.at at valid (omega arith) refl
          (so_far.lane search is end lane)) c.args.part.end c.loop-at.at (omega arith) (omega (arith, small))
          (so_far.none search is end before lane (omega (arith, small)));
      others = ticked_on c.args.tally.now c.loop-at.tally c.step.new.tally so_far.others ticks;
      scanned = omega (arith, ap (λ (t : Counts). t.scanned) ticks, so_far.scanned);
    }

pub returns-clause-none : goal.returns-clause-none
returns-clause-none c = λ search is end before lane small at after inside.
    c.loop-at.invariant.none search is end before lane small at
    (omega (arith, after, c.loop-at-test.false, c.loop-at.invariant.after)) inside
