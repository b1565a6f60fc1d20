use Rattle.std.proofs.Common.{rules, tests, true, string_bytes}
use Rattle.literal_base.specs.declared.packed.MatchKind.TheVariants.{LeftmostFirst}
use Rattle.literal_search.proofs.lemmas.Callers.{search_is_for_bytes, mapped_gives}
use Rattle.literal_examples.proofs.words.has_one_of_texts.Goals as goal

pub returns : goal.returns
returns c =
    let same = search_is_for_bytes
    (mapped_gives _ string_bytes c.args.words.now (cc) c.map-patterns.ensures.closure
    (λ x r q k. search (rules, tests)))
    LeftmostFirst true _ c.in_ok-search.ensures.ok in
    rw same at c.is_match.ensures.told
