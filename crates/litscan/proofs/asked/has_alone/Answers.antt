use Rattle.std.proofs.Common.{◌≡◌, None, arith, inl, inr, subst, sym}
use Rattle.std.proofs.lemmas.Bool.{both_ways, cases_lt}
use Rattle.literal_base.specs.Occurs.{rest_from}
use Rattle.litscan.specs.Asked.{OccursAsked}
use Rattle.litscan.proofs.lemmas.Asked.{asked_in, begins_at, has_sides, leftmost_here, occurs_in, one_asked_if}
use Rattle.litscan.proofs.lemmas.Asked.{told_by_first}
use Rattle.litscan.proofs.asked.has_alone.Goals as goal

pub returns-in-Some-longest_asked : goal.returns-in-Some-longest_asked
returns-in-Some-longest_asked c =
    let first = c.in-Some-longest_asked.ensures.first.1.occurs in
    sym (one_asked_if c.args.search.now c.args.options c.args.line.now _ _
    (asked_in c.args.search.now c.args.options c.args.line.now first (omega arith) first.occurs.before_end))

pub returns : goal.returns
returns c =
    let so_far = c.loop-found.invariant in
    told_by_first c.args.search.now c.args.options c.args.line.now None
    (λ i at o.
    c.in_default.ensures.leftmost i at
    (occurs_in c.args.search.now c.args.options c.args.line.now o.occurs (so_far.begins i at o)
    (omega (arith, o.occurs.before_end, so_far.to_end))))

pub loop-found-preserved : goal.loop-found-preserved
loop-found-preserved c =
    let search = c.args.search.now in
    let options = c.args.options in
    let line = c.args.line.now in
    let found = c.in-Some.found in
    let so_far = c.loop-found.invariant in
    let passed = c.first_start.ensures.passed in
    record {
      inside = c.first_start.ensures.inside.1;
      to_end = so_far.to_end;
      begins = λ i at o.
          let behind = begins_at search options line so_far.to_end c.in-Some.ensures.leftmost so_far.begins i at o in
          elim (cases_lt at c.first_start.result) [
            | inl before ↦
                elim (cases_lt found.start at) [
                  | inl after ↦
                      absurd (both_ways _
                      (has_sides search options line _ _ c.requires.alone.0 c.requires.alone.1 o.asked).0
                      (passed at (omega (arith, after, c.start.ensures.start)) before))
                  | inr not_after ↦
                      let here : at ≡ found.start = omega (arith, behind, not_after) in
                      absurd (c.in_default-longest_asked.ensures.first i
                      (subst (λ place. OccursAsked search options line (rest_from line found.start) i place) here
                      (asked_in search options line o behind o.occurs.before_end)))
                ]
            | inr not_before ↦ not_before
          ];
    }

pub longest_asked-requires-clause-here : goal.longest_asked-requires-clause-here
longest_asked-requires-clause-here c =
    leftmost_here c.args.search.now c.args.options c.args.line.now c.loop-found.invariant.to_end
    c.in-Some.ensures.leftmost
