use Rattle.std.proofs.Common.{ℕ, List, sym, subst, ◌∙◌}
use Rattle.literal_packed.specs.Inside.Entries.{AreStarts, AreHeads}
use Rattle.literal_packed.proofs.lemmas.LaidOut.{laid_out, opened}
use Rattle.literal_packed.proofs.rabinkarp.entries.BucketEntries.try_clone.Goals as goal

pub heads_of-requires : goal.heads_of-requires
heads_of-requires c =
    subst (AreStarts c.self.inside.starts)
    (sym (c.as_slice-2.ensures.value ∙ c.in_ok-list.ensures.items ∙ c.as_slice.ensures.value))
    (opened _ _ _ _ _ _ c.self.invariant).starts_are

pub heads_of-requires-2 : goal.heads_of-requires-2
heads_of-requires-2 c =
    subst (AreStarts c.self.inside.starts)
    (sym (c.as_slice-3.ensures.value ∙ c.in_ok-list.ensures.items ∙ c.as_slice.ensures.value))
    (opened _ _ _ _ _ _ c.self.invariant).starts_are

pub invariant_of-result : goal.invariant_of-result
invariant_of-result c =
    let starts = c.self.inside.starts in
    laid_out (record {
      starts_are = subst (AreStarts starts) (sym (c.in_ok-list.ensures.items ∙ c.as_slice.ensures.value))
          (opened _ _ _ _ _ _ c.self.invariant).starts_are;
      firsts_are = subst (λ (es : List (ℕ × ℕ)). AreHeads 0 starts es c.heads_of.result) c.as_slice-2.ensures.value
          c.heads_of.ensures;
      seconds_are = subst (λ (es : List (ℕ × ℕ)). AreHeads 1 starts es c.heads_of-2.result) c.as_slice-3.ensures.value
          c.heads_of-2.ensures;
      single_is = (opened _ _ _ _ _ _ c.self.invariant).single_is;
      longer_are = (opened _ _ _ _ _ _ c.self.invariant).longer_are;
    })
