use Rattle.std.proofs.Common.{ap, false}
use Rattle.literal_base.proofs.lemmas.Callers.{slice_gives}
use Rattle.literal_base.specs.declared.packed.MatchKind.TheVariants.{LeftmostLongest}
use Rattle.literal_search.specs.SearchValue.{SearchValue}
use Rattle.literal_search.proofs.lemmas.Callers.{search_is_for}
use Rattle.literal_examples.proofs.word_list.WordList.new.Goals as goal

pub returns : goal.returns
returns c =
    ap (λ (s : SearchValue). s.query.patterns)
    (search_is_for (slice_gives c.args.words.now (cc)) LeftmostLongest false _ c.in_ok-search.ensures.ok)
