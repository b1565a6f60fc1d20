use Rattle.std.proofs.Common.{arith}
use Rattle.literal_leftmost.proofs.lemmas.Backward.{mark_inside, only_named}
use Rattle.literal_rows.proofs.lemmas.Walk.{got_is}
use Rattle.literal_leftmost.proofs.backward.Backward.named_by.Goals as goal

pub returns-then-self-eq1-clause-named : goal.returns-then-self-eq1-clause-named
returns-then-self-eq1-clause-named c = λ search is haystack end at mark.
    only_named c.args.self.now search is haystack end at c.args.code c.requires.ends mark c.if-self-eq1.true

pub returns-in_err-len-clause-named : goal.returns-in_err-len-clause-named
returns-in_err-len-clause-named c = λ search is haystack end at mark.
    grind (arith, got_is, mark_inside)

pub returns-clause-named : goal.returns-clause-named
returns-clause-named c = λ search is haystack end at mark.
    grind (arith, got_is)
