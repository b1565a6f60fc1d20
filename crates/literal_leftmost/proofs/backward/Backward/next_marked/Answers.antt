use Rattle.std.proofs.Common.{arith}
use Rattle.literal_leftmost.proofs.backward.Backward.next_marked.Goals as goal

pub returns-then-code-ge-ENDS-clause-found : goal.returns-then-code-ge-ENDS-clause-found
returns-then-code-ge-ENDS-clause-found c = λ search is marked.
    grind arith

pub loop-at-init : goal.loop-at-init
loop-at-init c = λ search is marked at after before.
    let passed = c.pass_unmarked-at.ensures in
    (marked.marks at after (omega (arith, before, passed.within.1, after, c.max-upto.ensures))).none
    (passed.none at after before)
