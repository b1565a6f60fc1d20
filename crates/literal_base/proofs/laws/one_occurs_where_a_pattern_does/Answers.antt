use Rattle.literal_base.proofs.lemmas.Met.{occurs_if, one_occurs_if}
use Rattle.literal_base.proofs.laws.one_occurs_where_a_pattern_does.Goals as goal

pub returns : goal.returns
returns c = λ patterns ignore_case haystack.
    (occurs_if patterns ignore_case haystack, λ o. one_occurs_if patterns ignore_case haystack o.0 o.1 o.2)
