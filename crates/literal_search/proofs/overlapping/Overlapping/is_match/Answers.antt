use Rattle.std.proofs.Common.{◌≡◌, Bool, List, None, Option, Some, arith, is_some, sym, ℕ}
use Rattle.std.proofs.lemmas.Bool.{false_from_ne_true}
use Rattle.literal_base.proofs.lemmas.Met.{occurs_if, one_occurs_if}
use Rattle.literal_base.specs.Occurs.{one_occurs, whole_of}
use Rattle.literal_search.specs.Earliest.{IsEarliestEnd}
use Rattle.literal_search.proofs.overlapping.Overlapping.is_match.Goals as goal

-- something ends first where one pattern occurs
has_end : (patterns : List (List ℕ)) (ignore_case : Bool) (haystack : List ℕ) (answer : Option ℕ)
    → IsEarliestEnd patterns ignore_case haystack (whole_of haystack) answer
    → is_some answer ≡ one_occurs patterns ignore_case haystack
has_end patterns ignore_case haystack None nothing =
    sym (false_from_ne_true _ (λ one.
    let o = occurs_if patterns ignore_case haystack one in nothing o.0 o.1 o.2))
has_end patterns ignore_case haystack (Some end) earliest =
    let (i, at, o, _) = earliest.occurs in
    sym (one_occurs_if patterns ignore_case haystack i at o)

pub returns-clause-told : goal.returns-clause-told
returns-clause-told c = grind (arith, has_end)
