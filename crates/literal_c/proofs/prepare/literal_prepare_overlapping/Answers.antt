use Rattle.std.proofs.Common.{inl, refl, subst}
use Rattle.literal_search.specs.Overlapping.{OverlappingValue}
use Rattle.literal_search.specs.PreparedOverlapping.{RefusesOverlapping}
use Rattle.literal_c.proofs.prepare.literal_prepare_overlapping.Goals as goal

pub returns-in-Ok-into_prepared-clause-status : goal.returns-in-Ok-into_prepared-clause-status
returns-in-Ok-into_prepared-clause-status c = inl (record {
  bad_arguments = (λ is. absurd (cc), λ refused. absurd (refused c.in-Ok.ensures.0));
  no_searcher = (λ is. absurd (cc), λ both. absurd (both.1 c.in-Ok.ensures.1));
  searched = (λ _. (c.in-Ok.ensures.0, c.in-Ok.ensures.1), λ _. inl refl);
  too_large = λ is. absurd (cc);
  out_of_memory = λ is. absurd (cc);
})

pub returns-in-Err-into_prepared-clause-too_short : goal.returns-in-Err-into_prepared-clause-too_short
returns-in-Err-into_prepared-clause-too_short c = λ _.
    subst (λ (s : OverlappingValue). RefusesOverlapping s c.args.prepared.now c.in-Err-into_prepared.error)
    c.in-Ok.ensures.2 c.in-Err-into_prepared.ensures.error
