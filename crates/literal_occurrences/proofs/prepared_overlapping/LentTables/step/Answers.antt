use Rattle.std.proofs.Common.{ℕ, ◌%◌, ◌^◌, arith, get_or, refl, subst, sym}
use Rattle.literal_occurrences.specs.Inside.Count.{IsWalk}
use Rattle.literal_occurrences.specs.Inside.LentTables.{tables_by}
use Rattle.literal_occurrences.proofs.lemmas.Count.{number_is, walk_next}
use Rattle.literal_occurrences.proofs.prepared_overlapping.LentTables.step.Goals as goal

pub returns-then-next-limit-clause-prepared : goal.returns-then-next-limit-clause-prepared
returns-then-next-limit-clause-prepared c = λ search are span start here to valid before here_is to_is walk.
    let p = tables_by search c.args.self.now in
    let limit_is = c.requires.limit.is in
    let on = walk_next p are.tables c.args.haystack.now (λ k. omega (arith, c.type_inv.haystack k)) span valid start
    c.args.at c.args.row c.code_by-code.result
    (subst (λ (t : ℕ). IsWalk p c.args.haystack.now span start t c.args.row) here_is walk) before
    (number_is c.args.self.now.header c.table-table.result c.args.row (get_or c.args.haystack.now c.args.at 0)
    c.code_by-code.result c.table-table.ensures are.tables.classes c.code_by-code.ensures.number)
    (omega (arith, c.code_by-code.auto)) (c.code_by-code.result % 2 ^ 31) refl in
    absurd (omega (arith, on.1, on.2, limit_is, c.if-next-limit.true))

pub returns-clause-prepared : goal.returns-clause-prepared
returns-clause-prepared c = λ search are span start here to valid before here_is to_is walk.
    let p = tables_by search c.args.self.now in
    let on = walk_next p are.tables c.args.haystack.now (λ k. omega (arith, c.type_inv.haystack k)) span valid start
    c.args.at c.args.row c.code_by-code.result
    (subst (λ (t : ℕ). IsWalk p c.args.haystack.now span start t c.args.row) here_is walk) before
    (number_is c.args.self.now.header c.table-table.result c.args.row (get_or c.args.haystack.now c.args.at 0)
    c.code_by-code.result c.table-table.ensures are.tables.classes c.code_by-code.ensures.number)
    (omega (arith, c.code_by-code.auto)) (c.code_by-code.result % 2 ^ 31) refl in
    subst (λ (t : ℕ). IsWalk p c.args.haystack.now span start t (c.code_by-code.result % 2 ^ 31)) (sym to_is) on.0
