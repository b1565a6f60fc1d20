use Rattle.std.proofs.Common.{arith}
use Rattle.literal_leftmost.proofs.lemmas.Unmarked.{first_few, none_before, none_begun}
use Rattle.literal_leftmost.proofs.unmarked.unmarked_from.Goals as goal

pub returns-then-begun-eq0-clause-none : goal.returns-then-begun-eq0-clause-none
returns-then-begun-eq0-clause-none c = none_begun c.args.numbers.now c.args.at c.requires c.if-begun-eq0.true

pub returns-else-begun-eq0-clause-few : goal.returns-else-begun-eq0-clause-few
returns-else-begun-eq0-clause-few c =
    first_few c.args.numbers.now c.args.at c.requires (omega (arith, c.if-begun-eq0.false))

pub returns-else-begun-eq0-clause-none : goal.returns-else-begun-eq0-clause-none
returns-else-begun-eq0-clause-none c =
    none_before c.args.numbers.now c.args.at c.requires (omega (arith, c.if-begun-eq0.false))
