use Rattle.std.proofs.Common.{IfOk, subst}
use Rattle.literal_search.specs.SearchBuilderValue.{SearchBuilderValue}
use Rattle.literal_search.specs.SearchValue.{NeedFewStates}
use Rattle.literal_search.proofs.builder.SearchBuilder.build_overlapping.Goals as goal

pub returns-clause-few : goal.returns-clause-few
returns-clause-few g c =
    subst (λ (b : SearchBuilderValue). IfOk c.new.result
    (λ built. NeedFewStates b.ignore_case built.patterns)) c.self.view_is c.new.ensures.few
