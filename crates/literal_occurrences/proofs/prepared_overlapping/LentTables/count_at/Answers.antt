use Rattle.std.proofs.Common.{ℕ, arith, get_or, inl, inr, subst}
use Rattle.literal_occurrences.specs.Inside.Count.{IsWalk}
use Rattle.literal_occurrences.specs.Inside.LentTables.{tables_by}
use Rattle.literal_occurrences.proofs.lemmas.Count.{large_counts, large_inside, number_is, row_large, row_small}
use Rattle.literal_occurrences.proofs.lemmas.Count.{small_counts}
use Rattle.literal_occurrences.proofs.prepared_overlapping.LentTables.count_at.Goals as goal

pub returns-then-code-limit-clause-prepared : goal.returns-then-code-limit-clause-prepared
returns-then-code-limit-clause-prepared c = λ search are span here to valid after before here_is to_is walk.
    let p = tables_by search c.args.self.now in
    let number = number_is c.args.self.now.header c.table-table.result c.args.row
    (get_or c.args.haystack.now c.args.at 0) c.code_by-code.result c.table-table.ensures are.tables.classes
    c.code_by-code.ensures.number in
    small_counts p are.tables c.args.haystack.now (λ k. omega (arith, c.type_inv.haystack k)) span valid here c.args.at
    c.args.row c.code_by-code.result
    (subst (λ (t : ℕ). IsWalk p c.args.haystack.now span here t c.args.row) here_is walk)
    before number here_is after to to_is
    (omega (arith, c.if-code-limit.true, c.requires.limit.is)) _ (omega arith)

pub returns-in_err-next-clause-prepared : goal.returns-in_err-next-clause-prepared
returns-in_err-next-clause-prepared c = λ search are span here to valid after before here_is to_is walk.
    let p = tables_by search c.args.self.now in
    let number = number_is c.args.self.now.header c.table-table.result c.args.row
    (get_or c.args.haystack.now c.args.at 0) c.code_by-code.result c.table-table.ensures are.tables.classes
    c.code_by-code.ensures.number in
    let limit_is = c.requires.limit.is in
    let at_byte = subst (λ (t : ℕ). IsWalk p c.args.haystack.now span here t c.args.row) here_is walk in
    elim c.in_err-next.ensures [
      | inl small ↦
          let below = row_small p are.tables c.args.haystack.now (λ k. omega (arith, c.type_inv.haystack k)) span
          valid here c.args.at c.args.row c.code_by-code.result at_byte before number small in
          absurd (omega (arith, below, limit_is, small, c.if-code-limit.false))
      | inr large ↦
          let below = row_large p are.tables c.args.haystack.now (λ k. omega (arith, c.type_inv.haystack k)) span
          valid here c.args.at c.args.row c.code_by-code.result at_byte before number
          (omega (arith, large)) in
          absurd (omega (arith, below.0, below.1, limit_is, large))
    ]

pub returns-in_err-count-clause-prepared : goal.returns-in_err-count-clause-prepared
returns-in_err-count-clause-prepared c = λ search are span here to valid after before here_is to_is walk.
    let p = tables_by search c.args.self.now in
    let number = number_is c.args.self.now.header c.table-table.result c.args.row
    (get_or c.args.haystack.now c.args.at 0) c.code_by-code.result c.table-table.ensures are.tables.classes
    c.code_by-code.ensures.number in
    let at_byte = subst (λ (t : ℕ). IsWalk p c.args.haystack.now span here t c.args.row) here_is walk in
    let inside = large_inside p are.tables c.args.haystack.now (λ k. omega (arith, c.type_inv.haystack k)) span valid
    here c.args.at c.args.row c.code_by-code.result at_byte before number here_is after to to_is
    c.in_ok-next.ensures.0 c.in_ok-next.next c.in_ok-next.ensures.1 in
    absurd (c.in_err-count.ensures search inside.0 inside.1)

pub returns-clause-prepared : goal.returns-clause-prepared
returns-clause-prepared c = λ search are span here to valid after before here_is to_is walk.
    let p = tables_by search c.args.self.now in
    let number = number_is c.args.self.now.header c.table-table.result c.args.row
    (get_or c.args.haystack.now c.args.at 0) c.code_by-code.result c.table-table.ensures are.tables.classes
    c.code_by-code.ensures.number in
    let at_byte = subst (λ (t : ℕ). IsWalk p c.args.haystack.now span here t c.args.row) here_is walk in
    let inside = large_inside p are.tables c.args.haystack.now (λ k. omega (arith, c.type_inv.haystack k)) span valid
    here c.args.at c.args.row c.code_by-code.result at_byte before number here_is after to to_is
    c.in_ok-next.ensures.0 c.in_ok-next.next c.in_ok-next.ensures.1 in
    large_counts p are.tables c.args.haystack.now (λ k. omega (arith, c.type_inv.haystack k)) span valid
    here c.args.at c.args.row c.code_by-code.result at_byte before number here_is after to to_is
    c.in_ok-next.ensures.0 c.in_ok-next.next c.in_ok-next.ensures.1 _
    (omega (arith, c.in_ok-count.ensures search inside.0 inside.1))
