use Rattle.std.proofs.Common.{arith}
use Rattle.literal_occurrences.proofs.lemmas.Automaton.{row_within, steps}
use Rattle.literal_rows.proofs.lemmas.Rows.{rows_long}
use Rattle.literal_occurrences.proofs.automaton.Automaton.next_state.Goals as goal

pub returns-then-row-table : goal.returns-then-row-table
returns-then-row-table c = λ text is.
    let within = row_within c.args.self.now c.table-table.ensures.tables text c.args.state is c.row-row.result
    c.row-row.ensures in
    absurd (grind (arith, rows_long))

pub returns : goal.returns
returns c = λ text is.
    let t = c.args.self.now in
    let are = c.table-table.ensures.tables in
    let within = row_within t are text c.args.state is c.row-row.result c.row-row.ensures in
    grind (arith, steps)
