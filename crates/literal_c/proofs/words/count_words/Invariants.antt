use Rattle.std.proofs.Common.{◌≡◌, ◌+◌, ◌-◌, ◌≤◌, List, length}
use Rattle.literal_base.specs.MatchValue.{MatchValue}
use Rattle.literal_search.specs.PreparedWords.{ForWholeWords}
use Rattle.literal_c.specs.Words.{ContinueWordsBy}
use Rattle.literal_c.proofs.words.count_words.Given as goal

-- the whole words up to the next place are counted
abbrev pub invariant-loop-count : goal.invariant-loop-count
invariant-loop-count l = record {
  words : l.matches.matches.words ≡ l.words;
  in_haystack : l.matches.matches.haystack ≡ l.haystack;
  sides : l.matches.sides ≡ l.sides;
  in_span : l.matches.matches.span ≡ l.fn.span;
  few : l.count + l.fn.span.start ≤ l.matches.matches.at;
  inside : l.matches.matches.at ≤ l.fn.span.end;
  counted : ForWholeWords l.words (λ w. (done : List MatchValue)
      × ContinueWordsBy w l.haystack l.sides l.fn.span done l.matches.matches.at × (l.count ≡ length done));
}

abbrev pub decreases-loop-count : goal.decreases-loop-count
decreases-loop-count l = l.fn.span.end - l.matches.matches.at
