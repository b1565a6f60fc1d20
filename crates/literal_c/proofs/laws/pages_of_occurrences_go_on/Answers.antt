use Rattle.literal_c.proofs.lemmas.Resumed.{last_given}
use Rattle.literal_c.proofs.laws.pages_of_occurrences_go_on.Goals as goal
use Rattle.std.proofs.Common.{◌∙◌, ap, subst}
use Rattle.std.specs.Iterator.{Yields}
use Rattle.literal_search.specs.OverlappingMatchesValue.{GivesOverlapping, OverlappingMatchesValue}

pub returns : goal.returns
returns c = λ first old new page written before found list.
    let last = last_given first before found written.last
    (subst (λ all. Yields GivesOverlapping first all written.last) list written.matches) in
    (written.next ∙ ap (λ (m : OverlappingMatchesValue). m.end) last, last)
