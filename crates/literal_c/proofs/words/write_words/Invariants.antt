use Rattle.std.proofs.Common.{◌≡◌, ◌+◌, ◌≤◌, drop, map, slice_index, take}
use Rattle.std.specs.List.{All}
use Rattle.literal_search.specs.PreparedWords.{ForWholeWords}
use Rattle.literal_c.specs.Answers.{MayBeFound, end_of_last, match_of}
use Rattle.literal_c.specs.Words.{ContinueWordsBy}
use Rattle.literal_c.proofs.words.write_words.Given as goal

-- the whole words up to the next place are written
abbrev pub invariant-loop-place : goal.invariant-loop-place
invariant-loop-place l = record {
  count : l.page.written ≡ l.place-index;
  last : l.page.is_last ≡ 1;
  words : l.matches.matches.words ≡ l.words;
  in_haystack : l.matches.matches.haystack ≡ l.haystack;
  sides : l.matches.sides ≡ l.sides;
  in_span : l.matches.matches.span ≡ l.fn.span;
  at : l.matches.matches.at ≡ l.page.next;
  after : l.fn.span.start + l.place-index ≤ l.page.next;
  ends : l.page.next ≡ end_of_last l.fn.span.start (map match_of (take l.place-index l.found));
  before : l.page.next ≤ l.fn.span.end;
  continue : ForWholeWords l.words (λ w.
      ContinueWordsBy w l.haystack l.sides l.fn.span (map match_of (take l.place-index l.found)) l.page.next);
  inside : All (λ found. MayBeFound l.fn.span (slice_index l.words.numbers 3) (match_of found))
      (take l.place-index l.found);
  others : drop l.place-index l.found ≡ drop l.place-index l.fn.found;
}
