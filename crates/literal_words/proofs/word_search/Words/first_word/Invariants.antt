use Rattle.std.proofs.Common.{◌≤◌}
use Rattle.literal_base.specs.Occurs.{between}
use Rattle.literal_words.specs.Inside.WholeWords.{AreShorter, ForWords, IsBestHere, IsFirstUpTo, IsMatchAtStart}
use Rattle.literal_words.specs.Inside.WholeWords.{ScansEnds, end_or}
use Rattle.std.proofs.Common.{IfSome}
use Rattle.literal_words.proofs.word_search.Words.first_word.Given as goal

-- each whole word ends no further than the next match, or the first so far is no later in the list
abbrev pub invariant-loop-next : goal.invariant-loop-next
invariant-loop-next l = record {
  next : AreShorter l.fn.self l.fn.haystack l.fn.found.start l.fn.found.end l.next;
  here : ForWords l.fn.self (λ parts. IsBestHere parts.search l.fn.haystack l.fn.found
      → IfSome l.next (IsBestHere parts.search l.fn.haystack));
  first : ForWords l.fn.self (λ parts. IsBestHere parts.search l.fn.haystack l.fn.found
      → IsFirstUpTo parts l.fn.haystack l.fn.sides (between l.fn.found.start l.fn.found.end)
      (end_or l.fn.found.start l.next) l.first);
  lies : IfSome l.first (IsMatchAtStart l.fn.self (between l.fn.found.start l.fn.found.end));
  scans : ScansEnds (end_or l.fn.found.start l.next) l.fn.found.end l.fn.tally l.tally;
  least : l.fn.tally.scanned ≤ l.tally.scanned;
}

abbrev pub decreases-loop-next : goal.decreases-loop-next
decreases-loop-next l = end_or l.fn.found.start l.next
