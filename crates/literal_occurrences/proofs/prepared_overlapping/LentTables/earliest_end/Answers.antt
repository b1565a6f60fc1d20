use Rattle.std.proofs.Common.{Err, Ok, Option, arith, subst}
use Rattle.std.specs.Option.{option_map}
use Rattle.literal_occurrences.specs.Earliest.{IsEarliestEnd}
use Rattle.literal_rows.specs.declared.walk.WalkEnd.{WalkEnd}
use Rattle.literal_occurrences.proofs.lemmas.NextEnd.{finds_earliest}
use Rattle.literal_occurrences.proofs.prepared_overlapping.LentTables.earliest_end.Goals as goal

pub returns-in_err-found-clause-prepared : goal.returns-in_err-found-clause-prepared
returns-in_err-found-clause-prepared c = λ search are.
    absurd (finds_earliest c.table.result search.patterns search.ignore_case c.args.self.now.prints.now
    (c.table.ensures.table search are) are.prints c.args.haystack.now (λ k. omega (arith, c.type_inv.haystack k))
    c.args.span c.requires.valid (Err c.in_err-found.field-0.0) c.in_err-found.ensures.next
    c.in_err-found.ensures.inside)

pub returns-in-Some-clause-prepared : goal.returns-in-Some-clause-prepared
returns-in-Some-clause-prepared c = λ search are.
    subst (λ (answer : Option WalkEnd). IsEarliestEnd search.patterns search.ignore_case c.args.haystack.now c.args.span
    (option_map (λ (stop : WalkEnd). stop.end) answer)) c.in-Some.is
    (finds_earliest c.table.result search.patterns search.ignore_case c.args.self.now.prints.now
    (c.table.ensures.table search are) are.prints c.args.haystack.now (λ k. omega (arith, c.type_inv.haystack k))
    c.args.span c.requires.valid (Ok c.in_ok-found.found) c.in_ok-found.ensures.next c.in_ok-found.ensures.inside)

pub returns-in-None-clause-prepared : goal.returns-in-None-clause-prepared
returns-in-None-clause-prepared c = λ search are.
    subst (λ (answer : Option WalkEnd). IsEarliestEnd search.patterns search.ignore_case c.args.haystack.now c.args.span
    (option_map (λ (stop : WalkEnd). stop.end) answer)) c.in-None.is
    (finds_earliest c.table.result search.patterns search.ignore_case c.args.self.now.prints.now
    (c.table.ensures.table search are) are.prints c.args.haystack.now (λ k. omega (arith, c.type_inv.haystack k))
    c.args.span c.requires.valid (Ok c.in_ok-found.found) c.in_ok-found.ensures.next c.in_ok-found.ensures.inside)
