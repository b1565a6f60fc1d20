use Rattle.std.proofs.Common.{arith, ◌≡◌, Bool, List, None, Option, Some, is_some, sym, ℕ}
use Rattle.std.proofs.lemmas.Bool.{false_from_ne_true}
use Rattle.literal_base.proofs.lemmas.Met.{occurs_if, one_occurs_if}
use Rattle.literal_base.specs.Leftmost.{IsLeftmost}
use Rattle.literal_base.specs.MatchValue.{MatchValue}
use Rattle.literal_base.specs.Occurs.{one_occurs, whole_of}
use Rattle.literal_base.specs.Query.{Query}
use Rattle.literal_search.proofs.search.Search.is_match.Goals as goal

-- there is a leftmost match where one pattern occurs
has_match : (query : Query) (ignore_case : Bool) (haystack : List ℕ) (answer : Option MatchValue)
    → IsLeftmost query ignore_case haystack (whole_of haystack) answer
    → is_some answer ≡ one_occurs query.patterns ignore_case haystack
has_match query ignore_case haystack None nothing =
    sym (false_from_ne_true _ (λ one.
    let o = occurs_if query.patterns ignore_case haystack one in nothing o.0 o.1 o.2))
has_match query ignore_case haystack (Some found) leftmost =
    sym (one_occurs_if query.patterns ignore_case haystack found.pattern found.start leftmost.occurs)

pub returns-clause-told : goal.returns-clause-told
returns-clause-told c = grind (arith, has_match)
