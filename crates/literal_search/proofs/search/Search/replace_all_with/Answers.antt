use Rattle.std.proofs.Common.{arith, of_calls, refl, rules}
use Rattle.std.proofs.lemmas.Fn.{FoldsTo-push}
use Rattle.literal_search.proofs.lemmas.Callers.{greedy_from_matches}
use Rattle.literal_search.proofs.search.Search.replace_all_with.Goals as goal

pub loop-found-init : goal.loop-found-init
loop-found-init g c = record {
  search_is = search rules;
  haystack_is = search rules;
  at_is = search rules;
  to_end = search rules;
  within = omega arith;
  callable = c.requires;
  first = record { writer = c.args.write; text = c.new-text.result; at = 0 };
  begins = (refl, c.new-text.ensures.items, refl);
  is_written = refl;
}

pub returns-clause-ok : goal.returns-clause-ok
returns-clause-ok g c = record {
  matches = c.loop-found.yielded;
  are_greedy = grind (arith, greedy_from_matches);
  first = c.loop-found.invariant.first;
  last = record { writer = c.loop-found.write; text = c.loop-found.text; at = c.loop-found.at };
  begins = c.loop-found.invariant.begins;
  is_written = c.loop-found.invariant.is_written;
  ends = c.in_ok-extend_from_slice-2.ensures.items;
}

pub loop-found-preserved : goal.loop-found-preserved
loop-found-preserved g c =
    let so_far = c.loop-found.invariant in
    let found = c.in-Some.found in
    record {
      search_is = search rules;
      haystack_is = search rules;
      at_is = search rules;
      to_end = search rules;
      within = grind arith;
      callable = search of_calls;
      first = so_far.first;
      begins = so_far.begins;
      is_written = FoldsTo-push _ so_far.first c.loop-found.yielded _ found _ so_far.is_written (record {
        bytes = _;
        before = _;
        behind = _;
        are_matched = search rules;
        between = search rules;
        calls = c.in_ok-write.ensures;
        leaves = refl;
        goes_on = search rules;
      });
    }
