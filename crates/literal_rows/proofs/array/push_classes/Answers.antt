use Rattle.std.proofs.Common.{◌∷◌, ◌++◌, ◌∙◌, [], ap}
use Rattle.std.specs.List.{repeat}
use Rattle.literal_rows.specs.Inside.Rows.{packed_classes}
use Rattle.literal_rows.proofs.array.push_classes.Goals as goal

pub returns : goal.returns
unfolding packed_classes
returns c =
    c.in_ok-extend_from_slice.ensures.items
    ∙ ap (λ l. c.args.numbers.now.items ++ (l ++ repeat 192 (0 ∷ []))) c.pack.ensures.packed
