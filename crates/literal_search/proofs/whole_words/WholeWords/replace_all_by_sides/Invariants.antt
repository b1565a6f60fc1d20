use Rattle.literal_search.proofs.lemmas.ReplacedWords.{AreWordsWrittenTo}
use Rattle.literal_search.proofs.whole_words.WholeWords.replace_all_by_sides.Given as goal

abbrev pub invariant-loop-found : goal.invariant-loop-found
invariant-loop-found l =
    AreWordsWrittenTo l.self l.haystack l.sides l.replacements l.found-iterator l.at l.text.items l.yielded
