use Rattle.std.proofs.Common.{◌-◌, ◌<◌, ◌≤◌, ℕ}
use Rattle.literal_base.specs.Occurs.{between}
use Rattle.literal_words.specs.Inside.WholeWords.{AreKnownStarts, ForWords, starts_looked_up}
use Rattle.literal_words.specs.WholeWords.{OccursAloneBy, ScansWordsBy}
use Rattle.literal_words.proofs.word_search.Words.next_word.Given as goal

-- no whole word begins from the offset on before the offset from which the starts go on
abbrev pub invariant-loop-found : goal.invariant-loop-found
invariant-loop-found l = record {
  starts : AreKnownStarts l.fn.self l.fn.haystack l.fn.span l.starts;
  none : ForWords l.fn.self (λ parts. (i k : ℕ) → l.fn.at ≤ k → k < l.starts.at
      → ¬ OccursAloneBy parts.search.query.patterns parts.search.ignore_case parts.word_bytes l.fn.haystack l.fn.sides
      (between l.fn.at l.fn.span.end) i k);
  later : l.fn.starts.at ≤ l.starts.at;
  inside : l.starts.at ≤ l.fn.span.end;
  least : (starts_looked_up l.fn.self l.fn.span l.fn.starts).least
      ≤ (starts_looked_up l.fn.self l.fn.span l.starts).least;
  most : (starts_looked_up l.fn.self l.fn.span l.fn.starts).most ≤ (starts_looked_up l.fn.self l.fn.span l.starts).most;
  scans : ScansWordsBy l.fn.self.backward.table.longest l.fn.starts.at l.starts.at
      (starts_looked_up l.fn.self l.fn.span l.fn.starts) (starts_looked_up l.fn.self l.fn.span l.starts) l.fn.tally
      l.tally;
}

abbrev pub decreases-loop-found : goal.decreases-loop-found
decreases-loop-found l = l.fn.span.end - l.starts.at
