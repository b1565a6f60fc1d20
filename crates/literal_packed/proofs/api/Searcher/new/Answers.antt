use Rattle.literal_packed.proofs.lemmas.Additions.{builds_items, refuses_items}
use Rattle.literal_packed.proofs.api.Searcher.new.Goals as goal

pub returns-clause-ok : goal.returns-clause-ok
returns-clause-ok g c =
    builds_items g.I.IntoIterator.into_iter_gives g.I.IntoIter.Iterator.next_gives c.args.patterns _ _ c.build.result
    c.new-builder.ensures c.in_ok-put_all.ensures.ok c.build.ensures.ok

pub returns-clause-no_memory : goal.returns-clause-no_memory
returns-clause-no_memory g c =
    refuses_items g.I.IntoIterator.into_iter_gives g.I.IntoIter.Iterator.next_gives c.args.patterns _ _ c.build.result
    c.new-builder.ensures c.in_ok-put_all.ensures.ok c.build.ensures.no_memory
