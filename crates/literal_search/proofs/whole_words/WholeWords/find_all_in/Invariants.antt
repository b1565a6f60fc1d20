use Rattle.std.proofs.Common.{◌≡◌}
use Rattle.literal_words.specs.Inside.WholeWords.{AreWordsUpTo}
use Rattle.literal_search.proofs.whole_words.WholeWords.find_all_in.Given as goal

abbrev pub invariant-loop-found : goal.invariant-loop-found
invariant-loop-found l = record {
  words : l.found-iterator.words ≡ l.self;
  in_haystack : l.found-iterator.haystack ≡ l.haystack;
  in_span : l.found-iterator.span ≡ l.fn.span;
  so_far : AreWordsUpTo l.self l.haystack l.fn.span l.all.items l.found-iterator.at;
}
