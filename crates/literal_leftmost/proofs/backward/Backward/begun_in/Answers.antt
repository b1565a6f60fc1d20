use Rattle.std.proofs.Common.{arith}
use Rattle.literal_leftmost.proofs.backward.Backward.begun_in.Goals as goal

pub returns-clause-first : goal.returns-clause-first
returns-clause-first c = λ search is.
    let end = c.args.part.end in
    c.first_in.ensures.first search is end end (omega arith) (c.in_ok-row.ensures.lane search is)
    (λ k after before. absurd (omega (arith, after, before)))
