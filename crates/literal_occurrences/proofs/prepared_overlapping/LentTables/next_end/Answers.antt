use Rattle.std.proofs.Common.{Err, Ok, Some, arith, subst, sym}
use Rattle.literal_occurrences.specs.Inside.LentTables.{IsNextEnd, tables_by}
use Rattle.literal_occurrences.specs.declared.position.Position.{Position}
use Rattle.literal_occurrences.proofs.lemmas.LentTables.{IsFoundThere, found_there, next_none}
use Rattle.literal_occurrences.proofs.prepared_overlapping.LentTables.next_end.Goals as goal

pub returns-then-position-span-clause-prepared : goal.returns-then-position-span-clause-prepared
returns-then-position-span-clause-prepared c = λ search are position.
    next_none are c.args.haystack.now (λ k. omega (arith, c.type_inv.haystack k)) c.args.span c.requires.valid
    c.args.position position c.if-position.false c.if-position-span.true

pub returns-in_err-found-clause-prepared : goal.returns-in_err-found-clause-prepared
returns-in_err-found-clause-prepared c = λ search are position.
    let inside = position.inside in
    let is = c.table.ensures in
    absurd (found_there are c.args.haystack.now (λ k. omega (arith, c.type_inv.haystack k)) c.args.span
    c.requires.valid c.args.position position c.if-position.false (omega (arith, c.if-position-span.false))
    c.table.result (is.table search are) is.classes is.width is.rows (Err c.in_err-found.field-0.0)
    c.in_err-found.ensures.next c.in_err-found.ensures.inside)

pub returns-in_default-clause-prepared : goal.returns-in_default-clause-prepared
returns-in_default-clause-prepared c = λ search are position.
    let inside = position.inside in
    let is = c.table.ensures in
    subst (IsFoundThere (tables_by search c.args.self.now) c.args.haystack.now c.args.span c.args.position)
    c.in_default.is
    (found_there are c.args.haystack.now (λ k. omega (arith, c.type_inv.haystack k)) c.args.span c.requires.valid
    c.args.position position c.if-position.false (omega (arith, c.if-position-span.false)) c.table.result
    (is.table search are) is.classes is.width is.rows (Ok c.in_ok-found.found) c.in_ok-found.ensures.next
    c.in_ok-found.ensures.inside)

pub returns-in_err-position_at-clause-prepared : goal.returns-in_err-position_at-clause-prepared
returns-in_err-position_at-clause-prepared c = λ search are position.
    let inside = position.inside in
    let is = c.table.ensures in
    let there = subst (IsFoundThere (tables_by search c.args.self.now) c.args.haystack.now c.args.span c.args.position)
    c.in-Some.is
    (found_there are c.args.haystack.now (λ k. omega (arith, c.type_inv.haystack k)) c.args.span c.requires.valid
    c.args.position position c.if-position.false (omega (arith, c.if-position-span.false)) c.table.result
    (is.table search are) is.classes is.width is.rows (Ok c.in_ok-found.found) c.in_ok-found.ensures.next
    c.in_ok-found.ensures.inside) in
    absurd (c.in_err-position_at.ensures.prepared search there.0 there.1)

pub returns-clause-prepared : goal.returns-clause-prepared
returns-clause-prepared c = λ search are position.
    let inside = position.inside in
    let is = c.table.ensures in
    let there = subst (IsFoundThere (tables_by search c.args.self.now) c.args.haystack.now c.args.span c.args.position)
    c.in-Some.is
    (found_there are c.args.haystack.now (λ k. omega (arith, c.type_inv.haystack k)) c.args.span c.requires.valid
    c.args.position position c.if-position.false (omega (arith, c.if-position-span.false)) c.table.result
    (is.table search are) is.classes is.width is.rows (Ok c.in_ok-found.found) c.in_ok-found.ensures.next
    c.in_ok-found.ensures.inside) in
    subst (λ (s : Position). IsNextEnd (tables_by search c.args.self.now) c.args.haystack.now c.args.span
    c.args.position (Some s)) (sym (c.in_ok-position_at.ensures.prepared search there.0 there.1)) there.2
