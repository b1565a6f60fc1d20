use Rattle.std.proofs.Common.{◌+◌, ◌-◌, arith, map, subst}
use Rattle.literal_base.specs.Occurs.{between}
use Rattle.literal_rows.specs.Inside.Classes.{symbols_in}
use Rattle.literal_rows.specs.Inside.Walk.{ReachesWithin, ReadsTo, classes_by}
use Rattle.literal_occurrences.proofs.lemmas.NextEnd.{IsFoundOn, found_on}
use Rattle.literal_occurrences.proofs.lemmas.Scan.{others_on}
use Rattle.literal_occurrences.proofs.ends.next_end.Goals as goal

pub returns-in_err-stop-clause-next : goal.returns-in_err-stop-clause-next
returns-in_err-stop-clause-next c = λ patterns ignore_case is pass start begun.
    let come = c.loop-rest.invariant.comes patterns ignore_case is pass start begun in
    absurd (c.in_err-stop.ensures.reaches is.classes (map (symbols_in (classes_by c.args.table.now)) patterns)
    is.recognises _ (come.0.at is.recognises))

pub returns-in-Ends-clause-next : goal.returns-in-Ends-clause-next
returns-in-Ends-clause-next c =
    subst (IsFoundOn c.args.table.now c.args.prints.now c.args.haystack.now c.args.from c.args.span) c.in-Ends.is
    (found_on c.args.table.now c.args.prints.now c.args.haystack.now (λ k. omega (arith, c.type_inv.haystack k))
    c.args.from c.args.span c.requires.valid _ c.loop-rest.invariant.inside c.loop-rest.invariant.comes
    c.in_ok-stop.field-0 c.in_ok-stop.ensures.reaches _ c.in_ok-stop.ensures.inside)

pub returns-in-Nowhere-clause-next : goal.returns-in-Nowhere-clause-next
returns-in-Nowhere-clause-next c =
    subst (IsFoundOn c.args.table.now c.args.prints.now c.args.haystack.now c.args.from c.args.span) c.in-Nowhere.is
    (found_on c.args.table.now c.args.prints.now c.args.haystack.now (λ k. omega (arith, c.type_inv.haystack k))
    c.args.from c.args.span c.requires.valid _ c.loop-rest.invariant.inside c.loop-rest.invariant.comes
    c.in_ok-stop.field-0 c.in_ok-stop.ensures.reaches _ c.in_ok-stop.ensures.inside)

pub returns-in_err-start-in-Back-clause-next : goal.returns-in_err-start-in-Back-clause-next
returns-in_err-start-in-Back-clause-next c = λ patterns ignore_case is pass start begun.
    absurd (c.in_err-start-in-Back.ensures.none patterns ignore_case is pass)

pub loop-rest-preserved : goal.loop-rest-preserved
loop-rest-preserved c =
    let rest = between c.loop-rest.start c.args.span.end in
    let so_far = c.loop-rest.invariant in
    let told = c.in_ok-stop.ensures in
    let lies = subst (ReachesWithin rest
    (c.loop-rest.start + c.loop-rest.near)) c.in-Back.is told.inside in
    let far = subst (ReadsTo rest (c.reach.new.tally.scanned - c.loop-rest.tally.scanned)) c.in-Back.is
    told.counted in
    let passed = c.in_ok-start-in-Back.ensures in
    let next = c.farther-near.ensures in
    record {
      after = omega (arith, so_far.after, lies.0, passed.inside.0);
      inside = passed.inside.1;
      short = next.short so_far.short c.nearest-nearest.ensures.short;
      far = next.least;
      comes = subst (IsFoundOn c.args.table.now c.args.prints.now c.args.haystack.now c.args.from c.args.span)
          c.in-Back.is
          (found_on c.args.table.now c.args.prints.now c.args.haystack.now (λ k. omega (arith, c.type_inv.haystack k))
          c.args.from c.args.span c.requires.valid _ so_far.inside so_far.comes c.in_ok-stop.field-0 told.reaches _
          told.inside) c.in_ok-start-in-Back.start passed.inside.0 passed.inside.1
          passed.none;
      others = grind (arith, others_on);
      least = omega (arith, so_far.least, far, lies.0, passed.least, told.grows);
      most = omega (arith, so_far.most, so_far.far, far, lies.0, lies.2, passed.counted, passed.inside.0, told.grows);
    }

pub returns-in_err-stop-2-clause-next : goal.returns-in_err-stop-2-clause-next
returns-in_err-stop-2-clause-next c = λ patterns ignore_case is pass start begun.
    let come = c.loop-rest.invariant.comes patterns ignore_case is pass start begun in
    absurd (c.in_err-stop-2.ensures.reaches is.classes (map (symbols_in (classes_by c.args.table.now)) patterns)
    is.recognises _ (come.0.at is.recognises))

pub returns-in-Ends-2-clause-next : goal.returns-in-Ends-2-clause-next
returns-in-Ends-2-clause-next c =
    subst (IsFoundOn c.args.table.now c.args.prints.now c.args.haystack.now c.args.from c.args.span) c.in-Ends-2.is
    (found_on c.args.table.now c.args.prints.now c.args.haystack.now (λ k. omega (arith, c.type_inv.haystack k))
    c.args.from c.args.span c.requires.valid _ c.loop-rest.invariant.inside c.loop-rest.invariant.comes
    c.in_ok-stop-2.field-0 c.in_ok-stop-2.ensures.reaches _ c.in_ok-stop-2.ensures.inside)

pub returns-in-Nowhere-2-clause-next : goal.returns-in-Nowhere-2-clause-next
returns-in-Nowhere-2-clause-next c =
    subst (IsFoundOn c.args.table.now c.args.prints.now c.args.haystack.now c.args.from c.args.span) c.in-Nowhere-2.is
    (found_on c.args.table.now c.args.prints.now c.args.haystack.now (λ k. omega (arith, c.type_inv.haystack k))
    c.args.from c.args.span c.requires.valid _ c.loop-rest.invariant.inside c.loop-rest.invariant.comes
    c.in_ok-stop-2.field-0 c.in_ok-stop-2.ensures.reaches _ c.in_ok-stop-2.ensures.inside)
