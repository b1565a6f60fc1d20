-- No other row has the character than the one that was found.
use Rattle.std.proofs.Common.{◌≤◌, length, ◌∙◌, sym, rules}
use Rattle.literal_folding.specs.declared.foldings.TheConstants.{FOLDINGS}
use Rattle.literal_folding.proofs.lemmas.Table.{IsRowAt, folded_char_found, folded_char_past, row_fits, row_sound}
use Rattle.literal_folding.proofs.lemmas.Table.{row_step, row_upto}
use Rattle.literal_folding.proofs.fold.fold_code.Goals as goal

pub fold_in-requires : goal.fold_in-requires
fold_in-requires c =
    let at : IsRowAt c.row_index-at.result c.in-Some.row.now = record { within = search rules; is = search rules } in
    let sound = row_sound c.row_index-at.result c.in-Some.row.now at in
    record {
      upto_last = row_upto c.args.code c.row_index-at.result c.in-Some.row.now at c.row_index-at.ensures;
      has_step = row_step c.in-Some.row.now sound;
      fits = row_fits c.in-Some.row.now sound;
    }

pub returns-in-Some : goal.returns-in-Some
returns-in-Some c =
    let at : IsRowAt c.row_index-at.result c.in-Some.row.now = record { within = search rules; is = search rules } in
    c.fold_in.ensures
    ∙ sym (folded_char_found c.args.code c.row_index-at.result c.in-Some.row.now at c.row_index-at.ensures)

pub returns-in-None : goal.returns-in-None
returns-in-None c =
    let past : length FOLDINGS ≤ c.row_index-at.result = search rules in
    sym (folded_char_past c.args.code c.row_index-at.result past c.row_index-at.ensures)
