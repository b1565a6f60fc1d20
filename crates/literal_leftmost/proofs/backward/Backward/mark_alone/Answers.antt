use Rattle.std.proofs.Common.{◌≡◌, ◌+◌, ◌-◌, ◌∙◌, ap, arith, refl}
use Rattle.std.proofs.lemmas.List.{length-set}
use Rattle.literal_base.specs.Counts.{Counts}
use Rattle.literal_leftmost.specs.Inside.Backward.{AreBackFor, IsMark, back_tables_by}
use Rattle.literal_leftmost.specs.Inside.Leftmost.{IsStep}
use Rattle.literal_leftmost.specs.SearchValue.{SearchValue}
use Rattle.literal_leftmost.proofs.lemmas.Backward.{ticked_on}
use Rattle.literal_leftmost.proofs.lemmas.Leftmost.{held_on}
use Rattle.literal_leftmost.proofs.backward.Backward.mark_alone.Goals as goal

pub loop-at-init : goal.loop-at-init
loop-at-init c = grind arith

pub returns-in_err-code-clause-marks : goal.returns-in_err-code-clause-marks
returns-in_err-code-clause-marks c = λ search is.
    let next : c.loop-at.at ≡ (c.loop-at.at - 1) + 1 = omega arith in
    absurd (c.in_err-code.ensures.step search is c.args.span c.args.block.end c.loop-at.at (c.loop-at.at - 1)
    c.requires.valid.in_haystack next refl (c.loop-at.invariant.lane search is))

pub loop-at-preserved : goal.loop-at-preserved
loop-at-preserved c =
    let so_far = c.loop-at.invariant in
    let start = c.args.block.start in
    let end = c.args.block.end in
    let now = c.loop-at.at in
    let at = now - 1 in
    let next : now ≡ at + 1 = omega arith in
    let ticks = c.in_ok-code.ensures.ticks in
    let code = c.in_ok-code.code in
    let step : (search : SearchValue) → AreBackFor search c.args.self.now
    → IsStep (back_tables_by search c.args.self.now) c.args.haystack.now c.args.span end at code =
    λ search is. c.in_ok-code.ensures.step search is c.args.span end now at c.requires.valid.in_haystack next refl
    (so_far.lane search is) in
    record {
      after = omega arith;
      inside = omega (arith, so_far.inside);
      row = c.in_ok-code.ensures.leads;
      long = length-set c.loop-at.numbers (at - start) code ∙ so_far.long;
      lane = λ search is. (step search is).lane;
      marks = λ search is. held_on (IsMark (back_tables_by search c.args.self.now) c.args.haystack.now
          c.args.span.end)
          c.loop-at.numbers start at now end (at - start) code (omega arith) next (omega arith)
          (omega (arith, so_far.long, so_far.inside, c.requires.room))
          ((step search is).mark (omega (arith, so_far.inside)))
          (so_far.marks search is);
      others = ticked_on c.args.tally.now c.loop-at.tally c.step.new.tally so_far.others ticks;
      scanned = omega (arith, ap (λ (t : Counts). t.scanned) ticks, so_far.scanned);
    }
