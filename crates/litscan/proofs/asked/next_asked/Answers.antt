use Rattle.std.proofs.Common.{◌≡◌, ◌+◌, Some, ap, arith, inl, inr, refl, subst}
use Rattle.std.proofs.lemmas.Bool.{cases_lt}
use Rattle.literal_base.specs.Occurs.{rest_from}
use Rattle.literal_search.specs.MatchesValue.{MatchesValue}
use Rattle.litscan.specs.Asked.{OccursAsked}
use Rattle.litscan.proofs.lemmas.Asked.{along_after, along_from, asked_in, begins_at, start_along}
use Rattle.litscan.proofs.asked.next_asked.Goals as goal

pub loop-found-preserved : goal.loop-found-preserved
loop-found-preserved c =
    let search = c.args.search.now in
    let options = c.args.options in
    let line = c.args.line.now in
    let found = c.in-Some.found in
    let so_far = c.loop-found.invariant in
    let starts = c.loop-found.starts in
    let step = c.in-Some.ensures.steps in
    let leftmost = start_along search options line starts.at starts c.next.new.self (Some found) so_far.along step in
    let at_is : c.next.new.self.at ≡ found.start + 1 = ap (λ (it : MatchesValue). it.at) step.goes_on in
    record {
      along = along_from search options line (omega (arith, at_is))
          (along_after search options line starts.at starts c.next.new.self found so_far.along step);
      begins = λ i at o.
          let behind = begins_at search options line refl leftmost so_far.begins i at o in
          elim (cases_lt found.start at) [
            | inl after ↦ omega (arith, after, at_is)
            | inr not_after ↦
                let here : at ≡ found.start = omega (arith, behind, not_after) in
                absurd (c.in_default-longest_asked.ensures.first i
                (subst (λ place. OccursAsked search options line (rest_from line found.start) i place) here
                (asked_in search options line o behind o.occurs.before_end)))
          ];
    }
