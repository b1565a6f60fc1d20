use Rattle.std.proofs.Common.{◌<◌, arith, length, refl}
use Rattle.literal_rows.proofs.lemmas.Construction.{row_pushed}
use Rattle.literal_rows.proofs.grow.Construction.push_row.Goals as goal

pub returns-clause-grows : goal.returns-clause-grows
returns-clause-grows c =
    let g = c.args.self.now in
    let is = c.requires in
    let long : g.texts.width < length c.args.row.now = grind arith in
    row_pushed g.texts g.states.items g.lists.items g.rows.items _ c.args.row.now _ c.args.state c.index.result.now
    is.grows is.filled is.is_state c.index.ensures long refl c.in_ok-extend_from_slice.ensures.items is.on
