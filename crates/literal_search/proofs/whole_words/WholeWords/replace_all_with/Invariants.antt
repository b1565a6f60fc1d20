use Rattle.std.proofs.Common.{◌≡◌, [], length}
use Rattle.std.specs.List.{FoldsTo}
use Rattle.literal_base.specs.Occurs.{whole_of}
use Rattle.literal_words.specs.Inside.WholeWords.{AreWordsUpTo}
use Rattle.literal_search.specs.Replaced.{WritesMatch, WritingValue}
use Rattle.literal_search.proofs.whole_words.WholeWords.replace_all_with.Given as goal

abbrev pub invariant-loop-found : goal.invariant-loop-found
invariant-loop-found g l = record {
  words_is : l.found-iterator.words ≡ l.self;
  haystack_is : l.found-iterator.haystack ≡ l.haystack;
  span_is : l.found-iterator.span ≡ whole_of l.haystack;
  at_is : l.found-iterator.at ≡ l.at;
  so_far : AreWordsUpTo l.self l.haystack (whole_of l.haystack) l.yielded l.at;
  empty : length l.haystack ≡ 0 → length l.text.items ≡ 0;
  callable : goal.F-IsAlwaysCallable g l.write;
  first : WritingValue _;
  begins : (first.writer ≡ l.initial.write) × (first.text.items ≡ []) × (first.at ≡ 0);
  is_written : FoldsTo (WritesMatch (goal.F-step g) l.haystack) first l.yielded
      (record { writer = l.write; text = l.text; at = l.at });
}
