use Rattle.std.proofs.Common.{inl, inr, subst, sym}
use Rattle.literal_fingerprints.specs.Inside.Buckets.{HasByte}
use Rattle.literal_fingerprints.proofs.buckets.Halves.with_place.Goals as goal

pub returns-clause-has : goal.returns-clause-has
returns-clause-has c inside byte same =
    elim (c.other_case.ensures byte same) [
      | inl one ↦ subst (HasByte c.with-2.result) (sym one) (c.with-2.ensures.keeps _ c.with.ensures.has)
      | inr other ↦ subst (HasByte c.with-2.result) (sym other) c.with-2.ensures.has
    ]
