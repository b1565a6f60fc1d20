use Rattle.std.proofs.Common.{◌+◌, ◌*◌, arith}
use Rattle.literal_leftmost.proofs.lemmas.Passes.{paid_on, walk_paid}
use Rattle.literal_leftmost.proofs.backward.Backward.leave_block.Goals as goal

pub returns-in-Some-clause-most : goal.returns-in-Some-clause-most
returns-in-Some-clause-most c =
    let end = c.args.at + 512 * c.in-Some.steps in
    omega (
      arith,
      c.leave_in_four.ensures.most,
      c.in-Some.ensures.long,
      paid_on c.args.self.now.table.longest c.args.at end (omega arith),
    )

pub returns-clause-most : goal.returns-clause-most
returns-clause-most c =
    let block = c.block_at_least-block.ensures in
    walk_paid c.args.self.now.table.longest c.args.at c.block_at_least-block.result.end c.args.span.end
    c.args.tally.now.scanned c.leave_trail.new.tally.scanned (omega (arith, block.some)) block.inside block.long
    (omega (arith, block.start, c.leave_trail.ensures.most))
