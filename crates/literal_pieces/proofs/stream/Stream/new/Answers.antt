use Rattle.std.proofs.Common.{arith}
use Rattle.literal_pieces.proofs.lemmas.StreamCounts.{none_so_far}
use Rattle.literal_pieces.proofs.stream.Stream.new.Goals as goal

pub returns-clause-first : goal.returns-clause-first
returns-clause-first g c =
    let none = none_so_far c.args.sought.now c.in_ok-window.window c.new-3.result c.new-3.ensures.not_begun in
    grind arith
