use Rattle.std.proofs.Common.{◌≡◌, Some, is_some, option_map, unwrap_or, slice_index, sym, ap, ◌∙◌, arith}
use Rattle.literal_prefilters.specs.Table.{distance_of, step_back}
use Rattle.literal_prefilters.proofs.lemmas.Callers.{first_is, first_none}
use Rattle.test_compared.proofs.steps.step_plainly.Goals as goal

pub returns-in-Some : goal.returns-in-Some
returns-in-Some c =
    let table = c.args.table.now in
    let haystack = c.args.haystack.now in
    let place = c.loop-place.place in
    let start = c.args.span.start in
    let here : distance_of table (slice_index haystack place) ≡ Some c.in-Some.distance = sym c.distance.ensures.value
    ∙ c.in-Some.is in
    let first = first_is table haystack c.args.span c.requires place (record {
      after_start = omega arith;
      before_end = omega arith;
      here = ap is_some here;
      none_before = c.loop-place.invariant.none;
    }) in
    let far : unwrap_or (distance_of table (slice_index haystack place)) 0 ≡ c.in-Some.distance = ap
    (λ o. unwrap_or o 0) here in
    let back : step_back table haystack start place ≡ c.max.result = omega arith in
    sym (ap (option_map (step_back table haystack start)) first ∙ ap Some back)

pub returns : goal.returns
returns c =
    let table = c.args.table.now in
    let haystack = c.args.haystack.now in
    sym (ap (option_map (step_back table haystack c.args.span.start))
    (first_none table haystack c.args.span c.requires (record {
      none = λ k after below. c.loop-place.invariant.none k after (omega arith);
    })))
