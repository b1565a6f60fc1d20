use Rattle.std.proofs.Common.{◌≡◌, ◌==◌, ◌<◌, ◌≤◌, ℕ, count_by, length, slice_index}
use Rattle.literal_base.specs.MatchValue.{MatchValue}
use Rattle.literal_search.proofs.lemmas.Callers.{AreMatchesFrom}
use Rattle.literal_examples.proofs.frequencies.frequencies.Given as goal

abbrev pub invariant-loop-found : goal.invariant-loop-found
invariant-loop-found l = record {
  from : AreMatchesFrom l.search l.haystack l.found-iterator.at l.found-iterator;
  few : length l.yielded ≤ l.found-iterator.at;
  len : length l.counts.items ≡ length l.search.query.patterns;
  counted : (i : ℕ) → i < length l.search.query.patterns
      → slice_index l.counts.items i ≡ count_by (λ (m : MatchValue). m.pattern == i) l.yielded;
}
