use Rattle.std.proofs.Common.{◌*◌, ◌∙◌, [], ap, arith, length, List, ℕ}
use Rattle.std.proofs.lemmas.List.{get_or_push, length_push}
use Rattle.literal_rows.specs.Inside.Construction.{texts_of, word_in, words_of}
use Rattle.literal_rows.specs.Table.{code_of, stride_of}
use Rattle.literal_rows.specs.Words.{ending, word_of}
use Rattle.literal_rows.proofs.lemmas.Construction.{ending_is_small, words_length}
use Rattle.literal_rows.proofs.grow.Construction.add_state.Goals as goal

pub returns-clause-code : goal.returns-clause-code
returns-clause-code c =
    let g = c.args.self.now in
    let word = word_in (texts_of g.texts) c.args.state in
    let words = c.in_ok-push_state.ensures.words in
    let n = length g.states.items in
    let known = words_length g.texts g.states.items in
    record {
      state = n;
      is_state = omega (arith, known, ap (λ (l : List (List ℕ)). length l) words, length_push (words_of g) word);
      word_is = ap (λ (l : List (List ℕ)). word_of l n) words ∙ get_or_push (words_of g) word [] n known;
      code_is =
          c.code_for.ensures (ending (texts_of g.texts) word) c.requires.state.ended
          (ending_is_small g.texts g.states.items g.lists.items g.rows.items c.requires.grows word)
          ∙ ap (λ m. code_of (m * stride_of g.texts.width) (ending (texts_of g.texts) word))
          (c.len.ensures ∙ g.states.ok.0);
    }
