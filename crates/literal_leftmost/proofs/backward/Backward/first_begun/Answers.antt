use Rattle.std.proofs.Common.{arith}
use Rattle.literal_leftmost.proofs.backward.Backward.first_begun.Goals as goal

pub returns-then-progress-span-clause-most : goal.returns-then-progress-span-clause-most
returns-then-progress-span-clause-most c =
    omega (arith, c.pass_first-progress.ensures.progress.most, c.if-progress-span.true)

pub returns-then-progress-span-clause-counted : goal.returns-then-progress-span-clause-counted
returns-then-progress-span-clause-counted c =
    omega (arith, c.pass_first-progress.ensures.progress.least, c.if-progress-span.true)

pub first_after-requires-clause-progress : goal.first_after-requires-clause-progress
first_after-requires-clause-progress c = (c.args.tally.now.scanned, c.pass_first-progress.ensures.progress)

pub returns-clause-most : goal.returns-clause-most
returns-clause-most c =
    omega (arith, c.first_after.ensures.most c.args.tally.now.scanned c.pass_first-progress.ensures.progress)

pub returns-clause-counted : goal.returns-clause-counted
returns-clause-counted c =
    c.first_after.ensures.counted c.args.tally.now.scanned c.pass_first-progress.ensures.progress
