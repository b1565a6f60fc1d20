use Rattle.std.proofs.lemmas.Grind.{common_steps}
use Rattle.std.proofs.Common.{arith, ◌≡◌, ◌+◌, get_or}
use Rattle.literal_rows.proofs.lemmas.Construction.{link_row}
use Rattle.literal_rows.proofs.grow.Construction.put_failure_row.Goals as goal

pub returns : goal.returns
returns c symbol from is_symbol =
    let g = c.args.self.now in
    let isnt = c.if-state-eq0.false in
    let row = link_row g.texts g.states.items g.lists.items g.rows.items c.requires.grows c.args.state
    c.index.result.now (omega (arith, isnt)) c.requires.is_state (omega (arith, c.requires.filled)) c.index.ensures
    c.row_of-start.result c.row_of-start.ensures in
    let same : get_or c.put_numbers.new.array symbol 0 ≡ get_or g.rows.items (c.row_of-start.result + symbol) 0 =
    grind (arith, common_steps) in
    grind (arith, common_steps)
