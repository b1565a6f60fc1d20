use Rattle.std.proofs.Common.{◌+◌, ◌≤◌, ℕ, length}
use Rattle.literal_base.specs.Occurs.{between, pattern_at}
use Rattle.literal_words.specs.Inside.WholeWords.{AreShorter, ForWords, IsBestHere, IsWordAt, ScansEnds, end_or}
use Rattle.std.proofs.Common.{IfSome}
use Rattle.literal_words.proofs.word_search.Words.longest_word.Given as goal

-- whole words end no further than the next match
abbrev pub invariant-loop-next : goal.invariant-loop-next
invariant-loop-next l = record {
  lies : AreShorter l.fn.self l.fn.haystack l.fn.found.start l.fn.found.end l.next;
  here : ForWords l.fn.self (λ parts. IsBestHere parts.search l.fn.haystack l.fn.found
      → IfSome l.next (IsBestHere parts.search l.fn.haystack));
  ends : ForWords l.fn.self (λ parts. IsBestHere parts.search l.fn.haystack l.fn.found
      → (i : ℕ) → IsWordAt parts l.fn.haystack l.fn.sides (between l.fn.found.start l.fn.found.end) i
      → l.fn.found.start + length (pattern_at parts.search.query.patterns i) ≤ end_or l.fn.found.start l.next);
  scans : ScansEnds (end_or l.fn.found.start l.next) l.fn.found.end l.fn.tally l.tally;
  least : l.fn.tally.scanned ≤ l.tally.scanned;
}

abbrev pub decreases-loop-next : goal.decreases-loop-next
decreases-loop-next l = end_or l.fn.found.start l.next
