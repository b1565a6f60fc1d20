use Rattle.literal_packed.proofs.lemmas.Callers.{greedy_from_run}
use Rattle.test_contracts.proofs.uses.count_of_matches.Goals as goal

pub returns : goal.returns
returns c =
    let ran = c.count.ensures.ran in (
      ran.0,
      greedy_from_run c.args.searcher.now c.args.haystack.now _ ran.0 _ _ c.find_iter.ensures ran.1.1.1 ran.1.1.2,
      ran.2,
    )
