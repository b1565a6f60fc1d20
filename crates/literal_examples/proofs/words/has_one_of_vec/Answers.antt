use Rattle.std.proofs.Common.{true}
use Rattle.literal_base.specs.declared.packed.MatchKind.TheVariants.{LeftmostFirst}
use Rattle.literal_base.proofs.lemmas.Callers.{vec_gives}
use Rattle.literal_search.proofs.lemmas.Callers.{search_is_for}
use Rattle.literal_examples.proofs.words.has_one_of_vec.Goals as goal

pub returns : goal.returns
returns c =
    let same = search_is_for (vec_gives c.args.words) LeftmostFirst true _ c.in_ok-search.ensures.ok in
    rw same at c.is_match.ensures.told
