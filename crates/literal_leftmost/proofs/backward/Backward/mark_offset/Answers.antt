use Rattle.std.proofs.Common.{arith}
use Rattle.std.proofs.lemmas.List.{get_or-set_same}
use Rattle.literal_leftmost.proofs.backward.Backward.mark_offset.Goals as goal

pub returns-clause-marked : goal.returns-clause-marked
returns-clause-marked c = λ search is.
    grind (arith, get_or-set_same)
