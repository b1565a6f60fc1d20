use Rattle.std.proofs.Common.{ap, arith, length}
use Rattle.literal_occurrences.specs.Inside.LentTables.{tables_by}
use Rattle.literal_rows.specs.Inside.Walk.{rows_by}
use Rattle.literal_rows.specs.declared.walk.Table.{Table}
use Rattle.literal_occurrences.proofs.lemmas.Count.{walk_row}
use Rattle.literal_occurrences.proofs.prepared_overlapping.LentTables.count_in_four.Goals as goal

pub returns-then-from-limit-clause-prepared : goal.returns-then-from-limit-clause-prepared
returns-then-from-limit-clause-prepared c = λ search are counted.
    let some = c.requires.four.some in
    let inside = c.requires.four.inside in
    let row = walk_row (tables_by search c.args.self.now) are.tables c.args.haystack.now
    (λ k. omega (arith, c.type_inv.haystack k)) c.args.span c.requires.valid c.args.from.at c.args.from.at
    c.args.from.row (counted.walk (omega (arith, some, inside))) in
    let rows = ap (λ (t : Table). length (rows_by t)) c.table.ensures in
    omega (arith, row.0, row.1, rows, c.in_ok-limit.ensures.2, c.if-from-limit.true)
