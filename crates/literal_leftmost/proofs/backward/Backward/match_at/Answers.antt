use Rattle.std.proofs.Common.{arith}
use Rattle.literal_leftmost.proofs.lemmas.Backward.{mark_inside, mark_leftmost}
use Rattle.literal_rows.proofs.lemmas.Walk.{got_is}
use Rattle.literal_leftmost.proofs.backward.Backward.match_at.Goals as goal

pub returns-then-len-eq0-clause-leftmost : goal.returns-then-len-eq0-clause-leftmost
returns-then-len-eq0-clause-leftmost c = λ search is mark.
    grind (arith, got_is, mark_inside)

pub returns-clause-leftmost : goal.returns-clause-leftmost
returns-clause-leftmost c = λ search is mark.
    grind (arith, got_is, mark_leftmost)
