use Rattle.std.proofs.Common.{arith}
use Rattle.literal_leftmost.proofs.lemmas.Leftmost.{leftmost_from}
use Rattle.literal_rows.proofs.lemmas.Longest.{longest_is}
use Rattle.literal_leftmost.proofs.backward.Backward.find_in.Goals as goal

pub returns-clause-leftmost : goal.returns-clause-leftmost
returns-clause-leftmost c = λ search is.
    grind (arith, leftmost_from)

pub returns-then-span-clause-leftmost : goal.returns-then-span-clause-leftmost
returns-then-span-clause-leftmost c = λ search is i at occurs.
    grind (arith, longest_is)
