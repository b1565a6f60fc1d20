use Rattle.std.proofs.Common.{false}
use Rattle.literal_base.proofs.lemmas.Callers.{slice_gives}
use Rattle.literal_search.proofs.lemmas.Callers.{overlapping_is_for}
use Rattle.literal_examples.proofs.words.all_that_occurs.Goals as goal

pub returns : goal.returns
returns c =
    let same = overlapping_is_for (slice_gives c.args.words.now (cc)) false _ c.in_ok-search.ensures.ok in
    rw same at c.in_ok-collect_all.ensures
