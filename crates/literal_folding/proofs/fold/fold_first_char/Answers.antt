-- A folding has as many bytes as its character.
use Rattle.std.proofs.Common.{rules, ◌≡◌, ◌++◌, length, ap, ◌∙◌, sym, drop, arith}
use Rattle.std.specs.Char.{encode_utf8, len_utf8}
use Rattle.literal_folding.specs.Folding.{folded_char}
use Rattle.literal_folding.proofs.lemmas.Texts.{room_for_folding, with_first_folded-none, with_first_folded-same}
use Rattle.literal_folding.proofs.lemmas.Texts.{with_first_folded-some}
use Rattle.literal_folding.proofs.fold.fold_first_char.Goals as goal

pub returns-then-fold_code-code : goal.returns-then-fold_code-code
returns-then-fold_code-code c =
    sym (with_first_folded-same c.args.bytes.now (ap folded_char (sym c.first_code-code.ensures)
    ∙ sym c.fold_code.ensures ∙ c.if-fold_code-code.true ∙ c.first_code-code.ensures))

pub overwrite-requires : goal.overwrite-requires
overwrite-requires c =
    let e : length c.as_bytes.result.now ≡ len_utf8 c.fold_char.result = search rules in
    let first = sym c.first_char.ensures ∙ c.in-Some.is in
    omega (arith, e, ap len_utf8 c.fold_char.ensures, room_for_folding c.args.bytes.now c.in-Some.c first)

pub returns-in-Some : goal.returns-in-Some
returns-in-Some c =
    let folding = c.fold_char.result in
    let first = sym c.first_char.ensures ∙ c.in-Some.is in
    let bytes : c.as_bytes.result.now ≡ encode_utf8 folding = search rules in
    let len : length c.as_bytes.result.now ≡ len_utf8 folding = search rules in
    c.overwrite.ensures ∙ ap (λ n. c.as_bytes.result.now ++ drop n c.args.bytes.now) len
    ∙ ap (λ bs. bs ++ drop (len_utf8 folding) c.args.bytes.now) bytes
    ∙ ap (λ d. encode_utf8 d ++ drop (len_utf8 d) c.args.bytes.now) c.fold_char.ensures
    ∙ sym (with_first_folded-some c.args.bytes.now c.in-Some.c first)

pub returns-in_default : goal.returns-in_default
returns-in_default c =
    sym (with_first_folded-none c.args.bytes.now (sym c.first_char.ensures ∙ c.in_default.is))
