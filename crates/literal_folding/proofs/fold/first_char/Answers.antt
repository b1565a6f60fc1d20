-- The number that the first bytes spell is the character if it is one and spells these bytes.
use Rattle.std.proofs.Common.{rules, ◌∙◌, sym, subst}
use Rattle.std.specs.Char.{IsScalar}
use Rattle.literal_folding.proofs.lemmas.Chars.{first_char_of-by_code, no_scalar}
use Rattle.literal_folding.proofs.fold.first_char.Goals as goal

pub returns-in_err-c : goal.returns-in_err-c
returns-in_err-c c =
    c.from_residual.ensures
    ∙ sym (no_scalar c.args.bytes.now (λ is. c.in_err-c.ensures.value (subst IsScalar (sym c.first_code.ensures) is)))

pub returns : goal.returns
returns c =
    let told = c.in_ok-c.ensures.value in
    c.then_some.ensures
    ∙ sym (first_char_of-by_code c.args.bytes.now c.in_ok-c.c c.starts_with.result (told.1 ∙ c.first_code.ensures)
    (subst IsScalar (sym told.1) told.0) (search rules))
