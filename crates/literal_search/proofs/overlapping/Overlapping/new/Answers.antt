use Rattle.std.proofs.Common.{List, map, subst, ℕ}
use Rattle.std.specs.Global.{Vec}
use Rattle.literal_search.specs.SearchValue.{NeedFewStates}
use Rattle.literal_search.proofs.overlapping.Overlapping.new.Goals as goal

pub returns-clause-few : goal.returns-clause-few
returns-clause-few g c =
    subst (λ (patterns : List (Vec ℕ)). NeedFewStates c.args.ignore_case (map (λ (p : Vec ℕ). p.items) patterns))
    c.deref.ensures.value c.in_ok-numbers.ensures.few
