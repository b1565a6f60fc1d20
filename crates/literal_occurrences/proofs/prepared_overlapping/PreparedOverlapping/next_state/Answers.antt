use Rattle.std.proofs.Common.{◌≡◌, ◌+◌, ◌++◌, ◌∷◌, [], arith, get_or, subst, sym}
use Rattle.literal_occurrences.specs.Automaton.{IsStateAfter}
use Rattle.literal_occurrences.specs.PreparedOverlapping.{tables_in}
use Rattle.literal_occurrences.proofs.lemmas.Automaton.{row_within, steps}
use Rattle.literal_occurrences.proofs.lemmas.PreparedStates.{has_row, row_by}
use Rattle.literal_occurrences.proofs.prepared_overlapping.PreparedOverlapping.next_state.Goals as goal

pub returns-in_err-row-clause-prepared : goal.returns-in_err-row-clause-prepared
returns-in_err-row-clause-prepared c = λ search prepared text is.
    absurd (c.in_err-row.ensures (has_row (tables_in search c.args.self.now) prepared.tables text c.args.state is))

pub returns-clause-prepared : goal.returns-clause-prepared
returns-clause-prepared c = λ search prepared text is.
    let t = tables_in search c.args.self.now in
    let are = prepared.tables in
    let row_is = row_by t are text c.args.state is c.in_ok-row.row c.in_ok-row.ensures.0 in
    let within = row_within t are text c.args.state is c.in_ok-row.row row_is in
    let code_is : c.code_for.result ≡ get_or t.rows (c.in_ok-row.row + get_or t.classes c.args.byte 0) 0 =
    grind arith in
    subst (λ code. IsStateAfter t (text ++ c.args.byte ∷ []) code) (sym c.new.ensures)
    (steps t are text c.args.state is c.in_ok-row.row row_is c.args.byte c.code_for.result (omega arith) code_is)
