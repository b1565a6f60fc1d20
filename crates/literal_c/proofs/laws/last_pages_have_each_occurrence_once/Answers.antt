use Rattle.std.proofs.Common.{⊎_elim, refl, map, take, None, arith}
use Rattle.literal_occurrences.proofs.lemmas.Overlapping.{overlapping_from_yields}
use Rattle.literal_search.specs.OverlappingMatchesValue.{gone_on}
use Rattle.literal_c.specs.Answers.{match_of}
use Rattle.literal_c.specs.Overlapping.{all_that_occurs}
use Rattle.literal_c.proofs.laws.last_pages_have_each_occurrence_once.Goals as goal

pub returns : goal.returns
returns c = λ search haystack span old new page is_page is_last.
    ⊎_elim
    (λ last.
    overlapping_from_yields search haystack span (all_that_occurs search haystack span)
    (map match_of (take page.written new)) is_page.last (gone_on is_page.last None) refl is_page.matches
    (record { gives = last.1; goes_on = refl }))
    (λ more. absurd (omega (arith, is_last, more.0)))
    is_page.rest
