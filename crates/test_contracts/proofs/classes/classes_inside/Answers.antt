use Rattle.std.proofs.Common.{◌∙◌, arith, ap, get_or, set, slice_index, false}
use Rattle.std.proofs.lemmas.List.{length-set}
use Rattle.test_contracts.proofs.lemmas.Shared.{written_inside}
use Rattle.test_contracts.proofs.classes.classes_inside.Goals as goal

pub loop-index-preserved : goal.loop-index-preserved
loop-index-preserved c =
    let row = c.loop-index.inside.items in
    let classes = c.classes_of-classes.result in
    let ranges = c.args.ranges.now in
    record {
      len = length-set row c.from.result c.is_in_one.result ∙ c.loop-index.invariant.len;
      each = λ b below.
          ap (λ value. get_or (set row c.from.result value) (slice_index classes b) false) c.is_in_one.ensures
          ∙ written_inside ranges classes row c.loop-index.index c.from.result c.classes_of-classes.ensures.classes
          c.requires (omega (arith, c.loop-index-test.true)) (c.from.ensures ∙ c.get.ensures) c.loop-index.invariant.len
          c.loop-index.invariant.each b below;
    }
