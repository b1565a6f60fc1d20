use Rattle.std.proofs.Common.{IsCharBoundary, string_bytes}
use Rattle.literal_search.proofs.lemmas.ReplacedWords.{AreWordsWrittenTo}
use Rattle.literal_search.proofs.whole_words.WholeWords.replace_all_str_by_sides.Given as goal

abbrev pub invariant-loop-found : goal.invariant-loop-found
invariant-loop-found l = record {
  written : AreWordsWrittenTo l.self l.haystack l.sides l.replacements l.found-iterator l.at (string_bytes l.text)
      l.yielded;
  between : IsCharBoundary l.haystack l.at;
}
