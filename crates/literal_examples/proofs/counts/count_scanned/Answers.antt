use Rattle.std.proofs.Common.{◌+◌, ◌∷◌, [], ◌++◌, ◌∙◌, ap, refl, sym, subst, length, arith}
use Rattle.std.proofs.lemmas.List.{length_push}
use Rattle.literal_search.proofs.lemmas.Callers.{scans_whole}
use Rattle.literal_examples.proofs.counts.count_scanned.Goals as goal

pub loop-count-preserved : goal.loop-count-preserved
loop-count-preserved c =
    let so_far = c.loop-count.invariant in
    let all = so_far.run.0 in
    let found = c.in-Some.field-0 in
    let step = c.in-Some.ensures in
    let start = step.gives.leftmost.occurs.after_start in
    let some = step.gives.not_empty in
    record {
      run = (
        all ++ found ∷ [],
        c.iterations_scan_at_most.ensures.more _ _ _ all found so_far.run.1
            (record { gives = step.gives; scans = step.scans }),
        ap (λ n. n + 1) so_far.run.2 ∙ sym (length_push all found),
      );
      text_is = ap (λ m. m.haystack) step.gives.goes_on ∙ so_far.text_is;
      end_is = ap (λ m. m.span.end) step.gives.goes_on ∙ so_far.end_is;
      few = omega (arith, so_far.few, start, some, ap (λ m. m.at) step.gives.goes_on);
    }

pub returns-clause-count : goal.returns-clause-count
returns-clause-count c =
    let run = c.loop-count.invariant.run in (
      run.0,
      c.iterations_scan_at_most.ensures.greedy _ _ _ run.0 run.1
          (record {
            gives = c.in_default.ensures.gives;
            scans = c.in_default.ensures.scans;
          }),
      run.2,
    )

pub returns-clause-least : goal.returns-clause-least
returns-clause-least c =
    let run = c.loop-count.invariant.run in
    let each = c.iterations_scan_at_most.ensures.each _ _ _ run.0 run.1
    (record {
      gives = c.in_default.ensures.gives;
      scans = c.in_default.ensures.scans;
    }) in
    omega (arith, each)

pub returns-clause-bounded : goal.returns-clause-bounded
returns-clause-bounded c =
    let run = c.loop-count.invariant.run in
    scans_whole c.args.search.now.query.patterns c.args.text.now c.args.tally.now c.next_counted.new.tally
    (c.iterations_scan_at_most.ensures.bounded _ _ _ run.0 run.1
    (record {
      gives = c.in_default.ensures.gives;
      scans = c.in_default.ensures.scans;
    }))
