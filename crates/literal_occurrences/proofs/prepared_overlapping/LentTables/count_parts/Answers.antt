use Rattle.std.proofs.Common.{◌≡◌, ◌+◌, ◌*◌, arith, refl}
use Rattle.literal_occurrences.proofs.lemmas.Count.{four_on, four_parts, none_yet}
use Rattle.literal_leftmost.proofs.lemmas.Leftmost.{one_more}
use Rattle.literal_occurrences.proofs.prepared_overlapping.LentTables.count_parts.Goals as goal

pub loop-step-init : goal.loop-step-init
loop-step-init c = grind (arith, none_yet)

pub returns-in_err-first-clause-prepared : goal.returns-in_err-first-clause-prepared
returns-in_err-first-clause-prepared c = λ search are counted walks.
    let at = c.args.from.at + c.loop-step.step in
    absurd (c.in_err-first.ensures.prepared search are c.args.span at (at + 1) c.requires.valid
    (omega (arith, c.requires.walking.after)) (omega (arith, c.requires.four.inside, c.loop-step-test.true)) refl refl
    (c.loop-step.invariant.walks search are walks).0.first)

pub returns-in_err-second-clause-prepared : goal.returns-in_err-second-clause-prepared
returns-in_err-second-clause-prepared c = λ search are counted walks.
    let at = c.args.from.at + c.args.part + c.loop-step.step in
    absurd (c.in_err-second.ensures.prepared search are c.args.span at (at + 1) c.requires.valid
    (omega (arith, c.requires.walking.after)) (omega (arith, c.requires.four.inside, c.loop-step-test.true))
    (omega arith) (omega arith) (c.loop-step.invariant.walks search are walks).0.second)

pub returns-in_err-third-clause-prepared : goal.returns-in_err-third-clause-prepared
returns-in_err-third-clause-prepared c = λ search are counted walks.
    let at = c.args.from.at + 2 * c.args.part + c.loop-step.step in
    absurd (c.in_err-third.ensures.prepared search are c.args.span at (at + 1) c.requires.valid
    (omega (arith, c.requires.walking.after)) (omega (arith, c.requires.four.inside, c.loop-step-test.true))
    (omega arith) (omega arith) (c.loop-step.invariant.walks search are walks).0.third)

pub returns-in_err-fourth-clause-prepared : goal.returns-in_err-fourth-clause-prepared
returns-in_err-fourth-clause-prepared c = λ search are counted walks.
    let at = c.args.from.at + 3 * c.args.part + c.loop-step.step in
    absurd (c.in_err-fourth.ensures.prepared search are c.args.span at (at + 1) c.requires.valid
    (omega (arith, c.requires.walking.after)) (omega (arith, c.requires.four.inside, c.loop-step-test.true))
    (omega arith) (omega arith) (c.loop-step.invariant.walks search are walks).0.fourth)

pub loop-step-preserved : goal.loop-step-preserved
loop-step-preserved c =
    let start = c.args.from.at in
    let part = c.args.part in
    let step = c.loop-step.step in
    let so_far = c.loop-step.invariant in
    let inside = c.requires.four.inside in
    let after = c.requires.walking.after in
    let before = c.loop-step-test.true in
    let one = c.in_ok-first.ensures.grows in
    let two = c.in_ok-second.ensures.grows in
    let three = c.in_ok-third.ensures.grows in
    let four = c.in_ok-fourth.ensures.grows in
    let sum : c.args.tally.now.scanned + 4 * step + 1 + 1 + 1 + 1 ≡ c.args.tally.now.scanned + 4 * (step + 1) =
    omega arith in
    record {
      rows = grind arith;
      walks = λ search are walks.
          let here = so_far.walks search are walks in
          let first = c.in_ok-first.ensures.prepared search are c.args.span (start + step) (start + (step + 1))
          c.requires.valid (omega (arith, after)) (omega (arith, inside, before)) (omega arith) (omega arith)
          here.0.first in
          let second = c.in_ok-second.ensures.prepared search are c.args.span (start + part + step)
          (start + part + (step + 1)) c.requires.valid (omega (arith, after)) (omega (arith, inside, before))
          (omega arith) (omega arith) here.0.second in
          let third = c.in_ok-third.ensures.prepared search are c.args.span (start + 2 * part + step)
          (start + 2 * part + (step + 1)) c.requires.valid (omega (arith, after)) (omega (arith, inside, before))
          (omega arith) (omega arith) here.0.third in
          let fourth = c.in_ok-fourth.ensures.prepared search are c.args.span (start + 3 * part + step)
          (start + 3 * part + (step + 1)) c.requires.valid (omega (arith, after)) (omega (arith, inside, before))
          (omega arith) (omega arith) here.0.fourth in (
            record { first = first.0; second = second.0; third = third.0; fourth = fourth.0 },
            four_on search c.args.haystack.now c.args.span start part step c.args.from.count c.loop-step.count here.1
                _ _ _ _ _ first.1 second.1 third.1 fourth.1 (omega (arith, one, two, three, four)),
          );
      few = omega (arith, so_far.few, one, two, three, four);
      counted = grind (arith, one_more);
    }

pub returns-clause-prepared : goal.returns-clause-prepared
returns-clause-prepared c = λ search are counted walks.
    let start = c.args.from.at in
    let part = c.args.part in
    let done : c.loop-step.step ≡ part = omega (arith, c.loop-step-test.false, c.loop-step.auto.step-end) in
    let here = c.loop-step.invariant.walks search are walks in
    let end : start + 3 * part + c.loop-step.step ≡ start + 4 * part = omega (arith, done) in
    record {
      counts = grind (arith, four_parts);
      walk = λ less. grind arith;
    }
