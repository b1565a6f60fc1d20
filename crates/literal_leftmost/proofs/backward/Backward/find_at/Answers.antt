use Rattle.std.proofs.Common.{arith}
use Rattle.literal_rows.proofs.lemmas.Longest.{longest_is}
use Rattle.literal_leftmost.proofs.backward.Backward.find_at.Goals as goal

pub returns-then-span-clause-at : goal.returns-then-span-clause-at
returns-then-span-clause-at c = λ search is i occurs.
    grind (arith, longest_is)
