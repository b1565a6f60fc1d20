use Rattle.std.proofs.Common.{sym, subst, rules, ℕ, List, ◌∙◌}
use Rattle.std.specs.List.Sorted.{IsNonDecreasingBy}
use Rattle.std.proofs.lemmas.Fn.{always_returns_same}
use Rattle.std.proofs.lemmas.List.Sorted.{IsNonDecreasingBy-from_sort_by_key}
use Rattle.literal_packed.specs.Inside.Entries.{bucket_number, AreStarts, AreHeads}
use Rattle.literal_packed.proofs.lemmas.LaidOut.{laid_out, buckets_len, buckets_at}
use Rattle.literal_packed.proofs.lemmas.Parts.{part_is, filter_stable}
use Rattle.literal_packed.proofs.rabinkarp.entries.BucketEntries.new.Goals as goal

pub starts_of-starts-requires : goal.starts_of-starts-requires
starts_of-starts-requires c =
    subst (IsNonDecreasingBy bucket_number) (sym c.as_slice.ensures.value)
    (IsNonDecreasingBy-from_sort_by_key bucket_number _ c.in_ok-sort_by_key.ensures.sorted (λ a r q k. search rules))

pub invariant_of-result : goal.invariant_of-result
invariant_of-result c =
    let starts = c.starts_of-starts.result in
    laid_out (record {
      starts_are = subst (AreStarts starts) c.as_slice.ensures.value c.starts_of-starts.ensures;
      firsts_are = subst (λ (es : List (ℕ × ℕ)). AreHeads 0 starts es c.heads_of.result) c.as_slice-2.ensures.value
          c.heads_of.ensures;
      seconds_are = subst (λ (es : List (ℕ × ℕ)). AreHeads 1 starts es c.heads_of-2.result) c.as_slice-3.ensures.value
          c.heads_of-2.ensures;
      longer_are = c.longer_of.ensures;
      single_is = c.single_of.ensures;
    })

pub returns : goal.returns
returns c =
    let starts = c.starts_of-starts.result in
    let list = c.sort_by_key.new.self.items in
    let are : AreStarts starts list = subst (AreStarts starts) c.as_slice.ensures.value c.starts_of-starts.ensures in
    let stable = c.sort_by_key.ensures.stable bucket_number (always_returns_same _ _ _ (λ a r g k. search rules)) in
    record {
      each = buckets_len starts list;
      has = λ k below.
          buckets_at starts list k below ∙ (part_is starts list are k below ∙ filter_stable k _ list below stable);
    }
