use Rattle.std.proofs.Common.{◌≡◌, ◌+◌, ◌-◌, ◌*◌, ◌≤◌, ◌++◌, ℕ, List, length}
use Rattle.literal_base.specs.MatchValue.{MatchValue}
use Rattle.literal_search.specs.SearchValue.{longest_of}
use Rattle.literal_examples.specs.Lexed.{IsLexed}
use Rattle.literal_examples.proofs.lexer.lex.Given as goal

-- whatever tokens are still to come, those so far stand before them
abbrev pub invariant-loop-found : goal.invariant-loop-found
invariant-loop-found l = record {
  within : l.end ≤ length l.text;
  few : length l.tokens.items ≤ l.end;
  lexed : (more : List MatchValue) (end : ℕ) → IsLexed l.words l.text l.end more end
      → IsLexed l.words l.text 0 (l.tokens.items ++ more) end;
  each : l.fn.tally.scanned + l.end ≤ l.tally.scanned;
  others : l.tally ≡ record l.fn.tally { scanned = l.tally.scanned };
  linear : l.tally.scanned ≤ l.fn.tally.scanned + length l.tokens.items * longest_of l.words.query.patterns;
}

abbrev pub decreases-loop-found : goal.decreases-loop-found
decreases-loop-found l = length l.text - l.end
