use Rattle.std.proofs.Common.{◌≡◌, ◌-◌, ap, arith, refl, subst}
use Rattle.literal_base.specs.Counts.{Counts}
use Rattle.literal_base.specs.Occurs.{between}
use Rattle.literal_leftmost.specs.Inside.Backward.{back_tables_by}
use Rattle.literal_leftmost.specs.Inside.Leftmost.{IsFirstStart}
use Rattle.literal_leftmost.proofs.lemmas.Backward.{ticked_on}
use Rattle.literal_leftmost.proofs.backward.Backward.first_in.Goals as goal

pub returns-in_err-row-clause-first : goal.returns-in_err-row-clause-first
returns-in_err-row-clause-first c = λ search is end upto before lane behind.
    absurd (c.in_err-row.ensures.lane search is c.args.span end c.loop-at.at (c.loop-at.at - 1)
    c.requires.valid.in_haystack (omega arith) refl (c.loop-at.invariant.lane search is end lane))

pub loop-at-preserved : goal.loop-at-preserved
loop-at-preserved c =
    let at = c.loop-at.at - 1 in
    let ticks = c.in_ok-row.ensures.ticks in
    let valid = c.requires.valid.in_haystack in
    let so_far = c.loop-at.invariant in
    record {
      after = omega arith;
      inside = omega arith;
      row = c.in_ok-row.ensures.leads;
      lane = λ search is end lane. c.in_ok-row.ensures.lane search is c.args.span end c.loop-at.at at valid
          (omega arith) refl (so_far.lane search is end lane);
      first = λ search is end upto before lane behind. c.in_ok-row.ensures.first search is c.args.span end
          c.loop-at.at at upto valid (omega arith) refl (omega (arith, before, so_far.inside))
          (so_far.lane search is end lane) (so_far.first search is end upto before lane behind);
      begun = λ upto before behind. c.in_ok-row.ensures.lies c.loop-at.at at upto (omega arith) refl
          (omega (arith, before, so_far.inside)) (so_far.begun upto before behind);
      others = ticked_on c.args.tally.now c.loop-at.tally c.follow.new.tally so_far.others ticks;
      scanned = omega (arith, ap (λ (t : Counts). t.scanned) ticks, so_far.scanned);
    }

pub returns-clause-first : goal.returns-clause-first
returns-clause-first c = λ search is end upto before lane behind.
    let start : c.loop-at.at ≡ c.args.part.start = omega (arith, c.loop-at-test.false, c.loop-at.invariant.after) in
    subst (λ n. IsFirstStart (back_tables_by search c.args.self.now) c.args.haystack.now c.args.span.end (between n
    upto)
    c.loop-at.first) start (c.loop-at.invariant.first search is end upto before lane behind)
