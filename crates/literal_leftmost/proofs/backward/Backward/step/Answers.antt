use Rattle.std.proofs.Common.{arith}
use Rattle.literal_leftmost.specs.Inside.Backward.{back_tables_by}
use Rattle.literal_leftmost.proofs.lemmas.Leftmost.{lane_step}
use Rattle.literal_leftmost.proofs.backward.Backward.step.Goals as goal

pub returns-then-code-limit-clause-step : goal.returns-then-code-limit-clause-step
returns-then-code-limit-clause-step c = λ search is span end next to valid next_is to_is lane.
    let row = (lane_step (back_tables_by search c.args.self.now) is.tables c.args.haystack.now
    (λ i. omega (arith, c.type_inv.haystack i)) span valid end next c.args.at to c.args.row c.code_by-code.result
    next_is to_is lane (c.code_by-code.ensures.number is.tables.classes lane.stands.fits)).lane.stands.fits in
    omega (arith, row, c.requires.limit.is, c.if-code-limit.true)

pub returns-clause-step : goal.returns-clause-step
returns-clause-step c = λ search is span end next to valid next_is to_is lane.
    lane_step (back_tables_by search c.args.self.now) is.tables c.args.haystack.now
    (λ i. omega (arith, c.type_inv.haystack i)) span valid end next c.args.at to c.args.row c.code_by-code.result
    next_is to_is lane (c.code_by-code.ensures.number is.tables.classes lane.stands.fits)
