use Rattle.std.proofs.Common.{◌≡◌, ℕ, List, map, take}
use Rattle.std.specs.List.{flat_map}
use Rattle.litscan.specs.Request.{value_of_source}
use Rattle.litscan.specs.Words.{AreTextsOf, words_of_text}
use Rattle.litscan.proofs.words.words_of.Given as goal

-- the words so far are those of the sources so far
abbrev pub invariant-loop-source : goal.invariant-loop-source
invariant-loop-source l = record {
  texts : List (List ℕ);
  are : AreTextsOf (map value_of_source (take l.source-index l.sources)) texts;
  words : map (λ word. word.items) l.words.items ≡ flat_map (words_of_text l.options) texts;
}
