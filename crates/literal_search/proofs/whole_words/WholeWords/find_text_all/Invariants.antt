use Rattle.std.proofs.Common.{◌≡◌}
use Rattle.literal_base.specs.Occurs.{whole_of}
use Rattle.literal_words.specs.Inside.WholeWords.{AreWordsUpToBy}
use Rattle.literal_search.specs.WordText.{sides_of}
use Rattle.literal_search.proofs.whole_words.WholeWords.find_text_all.Given as goal

abbrev pub invariant-loop-found : goal.invariant-loop-found
invariant-loop-found l = record {
  words : l.found-iterator.matches.words ≡ l.self;
  in_haystack : l.found-iterator.matches.haystack ≡ l.fn.text;
  in_span : l.found-iterator.matches.span ≡ whole_of l.fn.text;
  sides : l.found-iterator.sides ≡ sides_of l.fn.text;
  so_far : AreWordsUpToBy l.self l.fn.text (sides_of l.fn.text) (whole_of l.fn.text) l.all.items
      l.found-iterator.matches.at;
}
