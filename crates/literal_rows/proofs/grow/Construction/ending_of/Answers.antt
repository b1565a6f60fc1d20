use Rattle.literal_rows.proofs.lemmas.Construction.{ending_by_start}
use Rattle.literal_rows.proofs.grow.Construction.ending_of.Goals as goal

pub returns : goal.returns
returns c =
    let g = c.args.self.now in
    ending_by_start g.texts g.states.items g.lists.items g.rows.items c.requires.grows c.args.code c.row_of.result
    c.index.result.now c.row_of.ensures c.index.ensures
