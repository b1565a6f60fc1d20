use Rattle.std.proofs.Common.{arith}
use Rattle.literal_leftmost.specs.Inside.Backward.{back_tables_by}
use Rattle.literal_leftmost.proofs.lemmas.Leftmost.{cleared_marks}
use Rattle.literal_leftmost.proofs.backward.Backward.mark_four_parts.Goals as goal

pub returns-in_err-lanes-clause-marked : goal.returns-in_err-lanes-clause-marked
returns-in_err-lanes-clause-marked c = λ search is.
    let begin = (c.in_ok-led.ensures.led search is).lanes in
    absurd (c.in_err-lanes.ensures.lanes search is c.args.haystack.now c.args.span c.args.from
    (c.pass_in_four-passed.ensures.steps (omega arith) search is begin))

pub returns-in_err-mark_in_four-clause-marked : goal.returns-in_err-mark_in_four-clause-marked
returns-in_err-mark_in_four-clause-marked c = λ search is.
    let begin = (c.in_ok-led.ensures.led search is).lanes in
    let passed = c.pass_in_four-passed in
    let haystack = c.args.haystack.now in
    let steps = passed.ensures.steps (omega arith) search is begin in
    absurd (c.in_err-mark_in_four.ensures.marks search is
    (c.in_ok-lanes.ensures.lanes search is haystack c.args.span c.args.from steps)
    (c.in_ok-lanes.ensures.marks search is haystack c.args.span c.args.from steps
    (cleared_marks (back_tables_by search c.args.self.now) haystack c.args.span.end _ c.args.from c.args.part
    passed.result.left c.clear.ensures.clear (passed.ensures.none search is begin))))

pub returns-in_ok-mark_in_four-clause-marked : goal.returns-in_ok-mark_in_four-clause-marked
returns-in_ok-mark_in_four-clause-marked c = λ search is.
    let begin = (c.in_ok-led.ensures.led search is).lanes in
    let passed = c.pass_in_four-passed in
    let haystack = c.args.haystack.now in
    let steps = passed.ensures.steps (omega arith) search is begin in
    record {
      marks = c.in_ok-mark_in_four.ensures.marks search is
          (c.in_ok-lanes.ensures.lanes search is haystack c.args.span c.args.from steps)
          (c.in_ok-lanes.ensures.marks search is haystack c.args.span c.args.from steps
          (cleared_marks (back_tables_by search c.args.self.now) haystack c.args.span.end _ c.args.from c.args.part
          passed.result.left c.clear.ensures.clear (passed.ensures.none search is begin)));
      none = λ k after upto before. absurd (omega (arith, upto, before));
    }
