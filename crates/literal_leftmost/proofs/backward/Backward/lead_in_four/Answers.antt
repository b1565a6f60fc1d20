use Rattle.std.proofs.Common.{◌≡◌, ◌+◌, ◌-◌, ◌*◌, ◌∙◌, ℕ, ap, arith, refl}
use Rattle.literal_base.specs.Counts.{Counts}
use Rattle.literal_leftmost.proofs.lemmas.Leftmost.{lane_begins, lane_there, one_more}
use Rattle.literal_leftmost.proofs.backward.Backward.lead_in_four.Goals as goal

pub loop-step-init : goal.loop-step-init
loop-step-init c = grind (arith, lane_begins)

pub returns-in_err-one-clause-led : goal.returns-in_err-one-clause-led
returns-in_err-one-clause-led c = λ search is.
    let at = c.args.at in
    let part = c.args.block.part in
    absurd (c.in_err-one.ensures.step search is c.args.span (at + part) (at + (part + c.loop-step.step))
    (at + part + (c.loop-step.step - 1)) c.requires.valid.in_haystack (omega arith) refl
    (c.loop-step.invariant.lanes search is).first)

pub returns-in_err-two-clause-led : goal.returns-in_err-two-clause-led
returns-in_err-two-clause-led c = λ search is.
    let at = c.args.at in
    let part = c.args.block.part in
    absurd (c.in_err-two.ensures.step search is c.args.span (at + 2 * part)
    (at + part + (part + c.loop-step.step)) (at + part + (c.loop-step.step - 1) + part)
    c.requires.valid.in_haystack (omega arith) refl (c.loop-step.invariant.lanes search is).second)

pub returns-in_err-three-clause-led : goal.returns-in_err-three-clause-led
returns-in_err-three-clause-led c = λ search is.
    let at = c.args.at in
    let part = c.args.block.part in
    absurd (c.in_err-three.ensures.step search is c.args.span (at + 3 * part)
    (at + 2 * part + (part + c.loop-step.step)) (at + part + (c.loop-step.step - 1) + part + part)
    c.requires.valid.in_haystack (omega arith) (omega arith) (c.loop-step.invariant.lanes search is).third)

pub returns-in_err-fourth-clause-led : goal.returns-in_err-fourth-clause-led
returns-in_err-fourth-clause-led c = λ search is.
    let at = c.args.at in
    let part = c.args.block.part in
    absurd (c.in_err-fourth.ensures.lane search is c.args.span (at + 4 * part)
    (at + 3 * part + (part + c.loop-step.step)) (at + part + (c.loop-step.step - 1) + part + part + part)
    c.requires.valid.in_haystack (omega arith) (omega arith) (c.loop-step.invariant.lanes search is).fourth)

pub loop-step-preserved : goal.loop-step-preserved
loop-step-preserved c =
    let at = c.args.at in
    let part = c.args.block.part in
    let lead = c.args.block.lead in
    let now = c.loop-step.step in
    let step = now - 1 in
    let end = c.args.span.end in
    let valid = c.requires.valid.in_haystack in
    let so_far = c.loop-step.invariant in
    let inside = c.requires.parts.inside in
    let before = so_far.before in
    let sum : c.args.tally.now.scanned + 4 * (lead - now) + 1 + 1 + 1 + 1
    ≡ c.args.tally.now.scanned + 4 * (lead - step) = omega (arith, before) in
    record {
      before = omega (arith, before);
      rows = record {
        first = c.in_ok-one.ensures.leads;
        second = c.in_ok-two.ensures.leads;
        third = c.in_ok-three.ensures.leads;
        fourth = c.in_ok-fourth.ensures.leads;
      };
      lanes = λ search is.
          let lanes = so_far.lanes search is in
          record {
            first = (c.in_ok-one.ensures.step search is c.args.span (at + part) (at + (part + now))
                (at + (part + step)) valid (omega arith) (omega arith) lanes.first).lane;
            second = (c.in_ok-two.ensures.step search is c.args.span (at + 2 * part) (at + part + (part + now))
                (at + part + (part + step)) valid (omega arith) (omega arith) lanes.second).lane;
            third = (c.in_ok-three.ensures.step search is c.args.span (at + 3 * part) (at + 2 * part + (part + now))
                (at + 2 * part + (part + step)) valid (omega arith) (omega arith) lanes.third).lane;
            fourth = c.in_ok-fourth.ensures.lane search is c.args.span (at + 4 * part)
                (at + 3 * part + (part + now)) (at + 3 * part + (part + step)) valid (omega arith) (omega arith)
                lanes.fourth;
          };
      last = λ search is whole. c.in_ok-fourth.ensures.lane search is c.args.span end (at + 4 * part + now)
          (at + 4 * part + step) valid (omega arith) (omega arith) (so_far.last search is whole);
      behind = λ search is whole. c.in_ok-fourth.ensures.first search is c.args.span end (at + 4 * part + now)
          (at + 4 * part + step) end valid (omega arith) (omega arith) (omega (arith, before, whole))
          (so_far.last search is whole) (so_far.behind search is whole);
      lies = c.in_ok-fourth.ensures.lies (at + 4 * part + now) (at + 4 * part + step) (at + 4 * part + lead)
          (omega arith) (omega arith) (omega (arith, before)) so_far.lies;
      counted = c.in_ok-fourth.ensures.ticks
          ∙ (one_more _ _ (c.in_ok-three.ensures.ticks
          ∙ one_more _ _ (c.in_ok-two.ensures.ticks
          ∙ one_more _ _ (c.in_ok-one.ensures.ticks ∙ one_more _ _ so_far.counted)))
          ∙ ap (λ (n : ℕ). let n' : Counts = record c.args.tally.now { scanned = n } in n') sum);
    }

pub returns-clause-led : goal.returns-clause-led
returns-clause-led c = λ search is.
    grind (arith, lane_there)
