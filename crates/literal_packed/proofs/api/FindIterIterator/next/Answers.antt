use Rattle.std.proofs.Common.{ap, subst, ◌∙◌, length, ℕ, Some, None}
use Rattle.literal_base.specs.Counts.{Counts}
use Rattle.literal_packed.specs.FindIterValue.{FindIterValue, FindsNext}
use Rattle.literal_packed.proofs.api.FindIterIterator.next.Goals as goal

pub returns-in_default-clause-steps : goal.returns-in_default-clause-steps
returns-in_default-clause-steps c =
    let inside = c.self.inside in
    let at : Counts → FindIterValue = λ counts. record {
      query = inside.searcher.now;
      haystack = inside.haystack.now;
      at = length inside.haystack.now;
      counts = counts;
    } in
    subst (λ (f : FindIterValue). FindsNext f None (at c.find_in_counted.new.tally)) c.self.view_is (record {
      leftmost = c.in_default.ensures.leftmost;
      not_empty = tt;
      goes_on = ap at c.in_default.ensures.exact;
    })

pub returns-clause-steps : goal.returns-clause-steps
returns-clause-steps c =
    let inside = c.self.inside in
    let found = c.in-Some.found in
    let at : ℕ → Counts → FindIterValue = λ e counts. record
    { query = inside.searcher.now; haystack = inside.haystack.now; at = e; counts = counts } in
    subst (λ (f : FindIterValue). FindsNext f (Some found) (at c.end-self-inside.result c.find_in_counted.new.tally))
    c.self.view_is (record {
      leftmost = c.in-Some.ensures.leftmost;
      not_empty = c.in-Some.ensures.not_empty;
      goes_on = ap (λ e. at e c.find_in_counted.new.tally) c.end-self-inside.ensures.end
          ∙ ap (at found.end) c.in-Some.ensures.exact;
    })
