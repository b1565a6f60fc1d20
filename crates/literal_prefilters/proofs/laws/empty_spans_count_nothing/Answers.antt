use Rattle.std.proofs.Common.{◌≡◌, ◌-◌, ap, arith, count_by}
use Rattle.std.specs.List.{range_with_len}
use Rattle.literal_prefilters.specs.Reached.{is_reached}
use Rattle.literal_prefilters.proofs.laws.empty_spans_count_nothing.Goals as goal

pub returns : goal.returns
returns c table haystack at =
    let none : at - at ≡ 0 = omega arith in
    (ap (λ k. count_by (is_reached table haystack at) (range_with_len at k)) none, none)
