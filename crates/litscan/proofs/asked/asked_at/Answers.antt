use Rattle.std.proofs.Common.{◌≡◌, ◌∙◌, ◌+◌, false, ap, arith, inl, inr, length, subst, sym}
use Rattle.std.proofs.lemmas.Bool.{both_ways, cases_lt}
use Rattle.literal_base.specs.Occurs.{pattern_at}
use Rattle.literal_base.specs.declared.search.Span.{Span}
use Rattle.litscan.specs.Asked.{OccursAsked, is_asked}
use Rattle.litscan.proofs.lemmas.Asked.{asked_in, has_sides, is_shorter}
use Rattle.litscan.proofs.asked.asked_at.Goals as goal

pub loop-found-preserved : goal.loop-found-preserved
loop-found-preserved c =
    let search = c.args.search.now in
    let options = c.args.options in
    let line = c.args.line.now in
    let found = c.in-Some.found in
    let so_far = c.loop-found.invariant in
    let leftmost = c.in-Some.ensures.at.1 in
    let here : c.args.start ≡ found.start = sym so_far.start ∙ sym c.in-Some.ensures.at.0 in
    let other : is_asked options line found.start found.end ≡ false =
    ap (λ (s : Span). is_asked options line s.start s.end) (sym c.span.ensures.span) ∙ sym c.is_asked.ensures
    ∙ c.if-is_asked.false in
    let last = c.last_end-in-Some.ensures in
    record {
      start = so_far.start;
      ordered = last.inside.0;
      inside =
          omega (
            arith,
            last.inside,
            c.end.ensures.end,
            leftmost.occurs.before_end,
            leftmost.whole,
            so_far.inside,
          );
      ends = λ i o.
          let rest = asked_in search options line o (omega (arith, so_far.start)) (so_far.ends i o) in
          let less = is_shorter search options line c.requires.longest leftmost other i
          (subst (λ at. OccursAsked search options line c.loop-found.rest i at) here rest) in
          let end = c.args.start + length (pattern_at search.query.patterns i) in
          elim (cases_lt c.last_end-in-Some.result end) [
            | inl behind ↦
                absurd (both_ways _ (has_sides search options line _ _ c.requires.alone.0 c.requires.alone.1 o.asked).1
                (last.passed end behind (omega (arith, less, here, c.end.ensures.end))))
            | inr not_behind ↦ not_behind
          ];
    }
