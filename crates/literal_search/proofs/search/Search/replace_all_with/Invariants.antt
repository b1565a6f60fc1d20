use Rattle.std.proofs.Common.{◌≡◌, ◌≤◌, [], length}
use Rattle.std.specs.List.{FoldsTo}
use Rattle.literal_search.specs.Replaced.{WritesMatch, WritingValue}
use Rattle.literal_search.proofs.search.Search.replace_all_with.Given as goal

abbrev pub invariant-loop-found : goal.invariant-loop-found
invariant-loop-found g l = record {
  search_is : l.found-iterator.search ≡ l.self;
  haystack_is : l.found-iterator.haystack ≡ l.haystack;
  at_is : l.found-iterator.at ≡ l.at;
  to_end : l.found-iterator.span.end ≡ length l.found-iterator.haystack;
  within : l.at ≤ length l.haystack;
  callable : goal.F-IsAlwaysCallable g l.write;
  first : WritingValue _;
  begins : (first.writer ≡ l.initial.write) × (first.text.items ≡ []) × (first.at ≡ 0);
  is_written : FoldsTo (WritesMatch (goal.F-step g) l.haystack) first l.yielded
      (record { writer = l.write; text = l.text; at = l.at });
}
