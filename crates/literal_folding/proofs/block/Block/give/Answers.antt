use Rattle.std.proofs.Common.{arith, length, ap}
use Rattle.literal_fingerprints.proofs.lemmas.Skipped.{part_behind}
use Rattle.literal_rows.proofs.lemmas.Arrays.{length_part}
use Rattle.literal_folding.proofs.block.Block.give.Goals as goal

pub returns-clause-ready : goal.returns-clause-ready
returns-clause-ready c =
    let b = c.args.self.now in
    let len = length_part b.bytes.items b.start b.folded c.requires.given (omega (arith, c.requires.within)) in
    part_behind b.bytes.items b.start b.folded c.min-count.result
    (omega (arith, c.requires.given, len, ap length c.ready-ready.ensures))
