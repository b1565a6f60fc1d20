use Rattle.std.proofs.Common.{arith}
use Rattle.literal_leftmost.specs.Inside.Backward.{back_tables_by}
use Rattle.literal_leftmost.proofs.lemmas.Leftmost.{lane_step}
use Rattle.literal_leftmost.proofs.backward.Backward.follow.Goals as goal

pub returns-clause-lane : goal.returns-clause-lane
returns-clause-lane c = λ search is span end next to valid next_is to_is lane.
    c.go_on.ensures.lane search is c.args.haystack.now span end to to_is
    (lane_step (back_tables_by search c.args.self.now) is.tables c.args.haystack.now
    (λ i. omega (arith, c.type_inv.haystack i)) span valid end next c.args.at to c.args.row c.code_by-code.result
    next_is to_is lane (c.code_by-code.ensures.number is.tables.classes lane.stands.fits))

pub returns-clause-first : goal.returns-clause-first
returns-clause-first c = λ search is span end next to upto valid next_is to_is before lane first.
    c.go_on.ensures.first search is c.args.haystack.now span end next to upto next_is to_is before
    (lane_step (back_tables_by search c.args.self.now) is.tables c.args.haystack.now
    (λ i. omega (arith, c.type_inv.haystack i)) span valid end next c.args.at to c.args.row c.code_by-code.result
    next_is to_is lane (c.code_by-code.ensures.number is.tables.classes lane.stands.fits)) first
