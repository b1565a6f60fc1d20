use Rattle.std.proofs.Common.{arith}
use Rattle.literal_fingerprints.proofs.lemmas.ByteCounts.{between_are}
use Rattle.literal_fingerprints.proofs.one_byte.count_byte.Goals as goal

pub returns-clause-count : goal.returns-clause-count
returns-clause-count c =
    between_are c.args.haystack.now c.args.byte c.args.span.start c.loop-at-2.at c.args.span.end c.loop-at-2.count
    c.requires.ordered (omega (arith, c.loop-at-2-test.false, c.loop-at-2.invariant.inside))
    c.loop-at-2.invariant.counted
