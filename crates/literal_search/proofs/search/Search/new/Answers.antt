use Rattle.std.proofs.Common.{List, map, subst, ℕ}
use Rattle.std.specs.Global.{Vec}
use Rattle.literal_search.specs.SearchValue.{NeedFewReversed}
use Rattle.literal_search.proofs.search.Search.new.Goals as goal

pub returns-clause-few : goal.returns-clause-few
returns-clause-few g c =
    subst (λ (p : List (Vec ℕ)). NeedFewReversed c.args.ignore_case (map (λ pattern. pattern.items) p))
    c.deref.ensures.value c.in_ok-numbers.ensures.few
