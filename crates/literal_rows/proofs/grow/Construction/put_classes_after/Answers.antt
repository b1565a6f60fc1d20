use Rattle.std.proofs.Common.{arith}
use Rattle.std.proofs.lemmas.List.{take_all}
use Rattle.literal_rows.proofs.lemmas.Construction.{after_is}
use Rattle.literal_rows.proofs.grow.Construction.put_classes_after.Goals as goal

pub returns : goal.returns
returns c =
    let g = c.args.self.now in
    let is = after_is g.texts g.states.items g.lists.items g.rows.items c.requires.grows c.args.state
    c.index.result.now c.requires.is_state c.index.ensures in
    grind (arith, take_all)
