use Rattle.literal_search.specs.SearchValue.{SearchValue}
use Rattle.std.proofs.Common.{ap, ◌∙◌, ◌≡◌, ◌==◌, ◌<◌, length, rules, slice_index, arith}
use Rattle.std.proofs.lemmas.Grind.{common_steps}
use Rattle.std.proofs.lemmas.List.{get_or_default, length_push}
use Rattle.std.proofs.lemmas.List.Sums.{count_by-le-length}
use Rattle.literal_base.specs.MatchValue.{MatchValue}
use Rattle.literal_search.proofs.lemmas.Callers.{greedy_from_matches, matches_go_on}
use Rattle.literal_examples.proofs.frequencies.frequencies.Goals as goal

pub overflow_add-index_mut : goal.overflow_add-index_mut
overflow_add-index_mut c =
    let found = c.in-Some.found in
    let finds = c.in-Some.ensures.steps in
    let most = count_by-le-length (λ (m : MatchValue). m.pattern == found.pattern) c.loop-found.yielded in
    let is_pattern = finds.leftmost.occurs.is_pattern in
    let same = ap (λ (s : SearchValue). length s.query.patterns) c.loop-found.invariant.from.search_is in
    let within : found.pattern < length c.args.search.now.query.patterns = omega (arith, is_pattern, same) in
    let count = c.loop-found.invariant.counted found.pattern within in
    let now = c.index_mut.ensures.value in
    let index_is : c.as_usize.result ≡ found.pattern = c.as_usize.ensures.value ∙ c.pattern.ensures in
    let items = c.loop-found.counts.items in
    let inside : c.as_usize.result < length items = omega (arith, index_is, within, c.loop-found.invariant.len) in
    let read : c.index_mut.result.now ≡ slice_index items found.pattern =
    now ∙ (get_or_default items c.as_usize.result c.index_mut.result.now 0 inside ∙ ap (slice_index items) index_is) in
    omega (
      arith,
      read,
      count,
      most,
      c.loop-found.invariant.few,
      finds.leftmost.occurs.after_start,
      finds.not_empty,
      c.end.ensures.end,
      c.end.type_inv,
    )

pub loop-found-preserved : goal.loop-found-preserved
loop-found-preserved c =
    let found = c.in-Some.found in
    let finds = c.in-Some.ensures.steps in
    let so_far = c.loop-found.invariant in
    let at_is = ap (λ m. m.at) finds.goes_on in
    record {
      from = matches_go_on so_far.from at_is finds;
      few = omega (
        arith,
        at_is,
        so_far.few,
        finds.leftmost.occurs.after_start,
        finds.not_empty,
        length_push c.loop-found.yielded found,
      );
      len = search rules;
      counted = λ i below. grind (arith, common_steps, so_far.counted i) steps 40000000;
    }

pub returns-clause-counted : goal.returns-clause-counted
returns-clause-counted c = (
  c.loop-found.yielded,
  greedy_from_matches c.args.search.now c.args.haystack.now _ _ _ _ (cc) c.loop-found.yielded_by
      c.in-None.ensures.steps,
  c.loop-found.invariant.len,
  c.loop-found.invariant.counted,
)
