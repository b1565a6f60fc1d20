use Rattle.std.proofs.Common.{◌∙◌, ap, subst, sym, map}
use Rattle.literal_search.specs.SearchValue.{CanBeKept}
use Rattle.literal_folding.proofs.lemmas.Refused.{folded_kept}
use Rattle.literal_folding.proofs.search.FoldedSearch.new.Goals as goal

pub build-requires : goal.build-requires
build-requires g c =
    let (patterns, all, are) = c.in_ok-patterns.ensures.ok in
    subst CanBeKept
    (sym (ap (map (λ pattern. pattern.items)) c.deref.ensures.value ∙ are)) (folded_kept patterns all.5)
