use Rattle.std.proofs.Common.{◌≡◌, ℕ, List, [], map, string_bytes, Some, sym, subst, ◌∙◌, rules}
use Rattle.litfind.specs.Inside.{searches_for}
use Rattle.litfind.specs.Lines.{AreLines, AreMatchLines}
use Rattle.litfind.specs.Query.{Task, words_ask}
use Rattle.litfind.specs.Run.{HasLine}
use Rattle.litfind.proofs.engine.read_lines.Goals as goal

-- the words ask for one thing
lines_asked : (words : List (List ℕ)) (asked : Task) (input : List ℕ) → words_ask words ≡ Some asked
    → AreLines words input [] → AreMatchLines asked input []
lines_asked words asked input ask are =
    let same : Some are.asked ≡ Some asked = sym are.ask ∙ ask in
    let is : are.asked ≡ asked = cc in
    subst (λ (a : Task). AreMatchLines a input []) is are.lines

pub returns-in_err-text-clause-no_memory : goal.returns-in_err-text-clause-no_memory
returns-in_err-text-clause-no_memory g c =
    let words = map string_bytes c.args.words.now in
    let input = c.in_ok-input.input.items in
    let refused = rw c.as_slice.ensures.value at c.in_err-text.ensures.no_memory in
    let line : HasLine words (g.R.Source.remaining c.args.reader.now) (g.R.Source.remaining c.read_to_end.new.reader) =
    record {
      input = input;
      read = c.in_ok-input.ensures.whole;
      line = λ are. refused (lines_asked words (searches_for c.in_ok-searcher.searcher) input
          c.in_ok-searcher.ensures.asked are);
    } in
    search (rules, line)

pub returns-clause-lines : goal.returns-clause-lines
returns-clause-lines g c =
    record {
      input = c.in_ok-input.input.items;
      read = c.in_ok-input.ensures.whole;
      lines = record {
        asked = searches_for c.in_ok-searcher.searcher;
        ask = c.in_ok-searcher.ensures.asked;
        lines = rw c.as_slice.ensures.value at c.in_ok-text.ensures.lines;
      };
    }
