use Rattle.std.proofs.Common.{sym, arith}
use Rattle.literal_base.specs.Bytes.{contains}
use Rattle.literal_prefilters.proofs.lemmas.Sets.{size-none, rank_sum-none}
use Rattle.literal_prefilters.proofs.prefilter.counted_set.CountedSet.empty.Goals as goal

pub invariant_of-result : goal.invariant_of-result
invariant_of-result c = record {
  counted = sym (size-none (contains c.empty.result) c.empty.ensures.each);
  ranked = sym (rank_sum-none (contains c.empty.result) c.empty.ensures.each);
  low = omega arith;
}
