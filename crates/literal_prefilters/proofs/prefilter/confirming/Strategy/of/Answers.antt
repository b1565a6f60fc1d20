use Rattle.std.proofs.Common.{◌≡◌, ◌∙◌, sym, ap, subst}
use Rattle.literal_prefilters.proofs.lemmas.Strategies.{searches_by_memmem, searches_by_packed}
use Rattle.literal_prefilters.specs.Choice.{IsBuiltFor}
use Rattle.literal_prefilters.specs.Inside.Prefilter.{value_of_finder}
use Rattle.literal_prefilters.specs.PrefilterValue.{by_memmem, by_packed}
use Rattle.literal_prefilters.proofs.prefilter.confirming.Strategy.of.Goals as goal

pub returns-in-Memmem-clause-value : goal.returns-in-Memmem-clause-value
returns-in-Memmem-clause-value c =
    let is : c.args.prefilter ≡ by_memmem c.in-Memmem.memmem =
    sym c.prefilter.view_is ∙ ap value_of_finder c.in-Memmem.is in
    rw (is, c.in-Memmem.is)
    (searches_by_memmem c.args.kind c.args.builder c.requires.kind c.in-Memmem.memmem
    (subst (IsBuiltFor c.args.builder) is c.requires.built))

pub returns-in-Packed-clause-value : goal.returns-in-Packed-clause-value
returns-in-Packed-clause-value c =
    let is : c.args.prefilter ≡ by_packed c.in-Packed.packed =
    sym c.prefilter.view_is ∙ ap value_of_finder c.in-Packed.is in
    rw (is, c.packed.view_is ∙ c.in-Packed.packed-is)
    (searches_by_packed c.args.kind c.args.builder c.requires.kind c.in-Packed.packed
    (subst (IsBuiltFor c.args.builder) is c.requires.built))
