use Rattle.std.proofs.Common.{arith}
use Rattle.literal_occurrences.proofs.lemmas.Automaton.{row_within, steps}
use Rattle.literal_rows.proofs.lemmas.Rows.{rows_long}
use Rattle.literal_occurrences.proofs.automaton.Automaton.next_at.Goals as goal

pub code_at-number-requires-clause-within : goal.code_at-number-requires-clause-within
code_at-number-requires-clause-within c =
    let within = row_within c.args.self.now c.table.ensures.tables c.requires.after.0 c.args.state c.requires.after.1
    c.row.result c.row.ensures in
    grind (arith, rows_long)

pub returns-clause-state : goal.returns-clause-state
returns-clause-state c = λ text is.
    let t = c.args.self.now in
    let are = c.table.ensures.tables in
    let within = row_within t are text c.args.state is c.row.result c.row.ensures in
    grind (arith, steps)
