use Rattle.std.proofs.Common.{IfOk, subst}
use Rattle.literal_search.specs.SearchBuilderValue.{SearchBuilderValue}
use Rattle.literal_search.specs.SearchValue.{NeedFewReversed}
use Rattle.literal_search.proofs.builder.SearchBuilder.build.Goals as goal

pub returns-clause-few : goal.returns-clause-few
returns-clause-few g c =
    subst (λ (b : SearchBuilderValue). IfOk c.new.result
    (λ built. NeedFewReversed b.ignore_case built.query.patterns)) c.self.view_is c.new.ensures.few
