-- A byte below 192 begins no character of several bytes.
use Rattle.std.proofs.Common.{◌∙◌, ap, arith, get_or, refl, slice_set, sym}
use Rattle.literal_folding.proofs.lemmas.Texts.{first_ascii, first_cont}
use Rattle.literal_folding.proofs.fold.fold_first.Goals as goal

pub returns-in-0-to-127 : goal.returns-in-0-to-127
returns-in-0-to-127 c =
    let text = c.args.bytes.now in
    ap (slice_set text 0) c.to_ascii_lowercase.ensures.value
    ∙ first_ascii text (get_or text 0 0) c.requires refl (omega arith)

pub returns-in-128-to-191 : goal.returns-in-128-to-191
returns-in-128-to-191 c =
    let text = c.args.bytes.now in
    sym (first_cont text (get_or text 0 0) c.requires refl (omega arith, omega arith))
