use Rattle.std.proofs.Common.{arith}
use Rattle.literal_c.proofs.lemmas.Pieces.{next_end}
use Rattle.literal_c.proofs.pieces.PiecesIterator.next.Goals as goal

pub slice_bounds-piece-end : goal.slice_bounds-piece-end
slice_bounds-piece-end c =
    let cut = next_end _ _ _ _ _ c.in_ok-end.ensures.cases.0 c.self.invariant in
    let ordered = cut.0 in
    let within = cut.1 in
    omega arith
