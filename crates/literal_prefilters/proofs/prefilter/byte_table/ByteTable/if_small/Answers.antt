use Rattle.std.proofs.Common.{◌≡◌, ◌&&◌, cond, length, nat_le, true, Some, None, slice_index, sym, ap, ◌∙◌}
use Rattle.std.proofs.lemmas.Bool.{and_parts, cond-true, cond-false, leb-true}
use Rattle.literal_base.specs.Bytes.{contains}
use Rattle.literal_prefilters.specs.Table.{rank_sum_of, size}
use Rattle.literal_prefilters.specs.Tables.{of_set, table_of}
use Rattle.literal_prefilters.proofs.lemmas.FurthestDistance.{distance_of-table_of-le}
use Rattle.literal_prefilters.proofs.lemmas.Sets.{rank_sum-of_set, size-of_set}
use Rattle.literal_prefilters.proofs.lemmas.TableOf.{length-table_of}
use Rattle.literal_prefilters.proofs.prefilter.byte_table.ByteTable.if_small.Goals as goal

pub returns-then-not-fits_a_table : goal.returns-then-not-fits_a_table
returns-then-not-fits_a_table c =
    let set = contains c.args.set.now in
    let far = slice_index c.args.offsets.now in
    sym (ap (λ n. cond (nat_le 1 n && nat_le n 3) (Some (table_of set far)) None) (size-of_set set far)
    ∙ cond-false _ _ _ (sym c.fits_a_table.ensures ∙ c.if-not-fits_a_table.true))

pub invariant_of-result : goal.invariant_of-result
invariant_of-result c =
    let set = contains c.args.set.now in
    let far = slice_index c.args.offsets.now in
    let few = size-of_set set far in
    let ranked = rank_sum-of_set set far in
    let fits : (nat_le 1 (size (of_set set)) && nat_le (size (of_set set)) 3) ≡ true =
    sym c.fits_a_table.ensures ∙ c.if-not-fits_a_table.false in
    let parts = and_parts _ _ fits in
    record {
      whole = ap length c.distances.ensures ∙ length-table_of set far;
      counted = c.count.ensures ∙ sym (ap size c.distances.ensures ∙ few);
      not_empty = rw (c.distances.ensures, few) (leb-true 1 (size (of_set set)) parts.0);
      small = rw (c.distances.ensures, few) (leb-true (size (of_set set)) 3 parts.1);
      ranked = c.rank_sum.ensures.value ∙ sym (ap rank_sum_of c.distances.ensures ∙ ranked);
      low = rw c.count.ensures c.rank_sum.ensures.low;
      near = rw c.distances.ensures (distance_of-table_of-le 254 set far c.requires);
    }

pub returns : goal.returns
returns c =
    let set = contains c.args.set.now in
    let far = slice_index c.args.offsets.now in
    ap Some c.distances.ensures ∙ sym (ap (λ n. cond (nat_le 1 n && nat_le n 3) (Some (table_of set far)) None)
    (size-of_set set far) ∙ cond-true _ _ _ (sym c.fits_a_table.ensures ∙ c.if-not-fits_a_table.false))
