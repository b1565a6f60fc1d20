use Rattle.std.proofs.Common.{arith}
use Rattle.literal_leftmost.proofs.backward.Backward.first_in_four.Goals as goal

pub returns-in-Some-clause-first : goal.returns-in-Some-clause-first
returns-in-Some-clause-first c = λ search is.
    grind arith
