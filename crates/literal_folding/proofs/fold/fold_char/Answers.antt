-- A folding is a character.
use Rattle.std.proofs.Common.{rules, subst, sym}
use Rattle.std.specs.Char.{IsScalar}
use Rattle.literal_folding.proofs.lemmas.Chars.{some_char}
use Rattle.literal_folding.proofs.lemmas.Table.{folded_char_scalar}
use Rattle.literal_folding.proofs.fold.fold_char.Goals as goal

pub unwrap-requires : goal.unwrap-requires
unwrap-requires c =
    let is : IsScalar c.args.c = search rules in
    some_char c.from_u32.result c.fold_code.result
    (subst IsScalar (sym c.fold_code.ensures) (folded_char_scalar c.args.c is)) c.from_u32.ensures.value
