use Rattle.std.proofs.Common.{IfOk, List, false, subst, ℕ}
use Rattle.literal_base.specs.Greedy.{IsGreedy}
use Rattle.literal_search.specs.SearchValue.{SearchValue}
use Rattle.literal_search.proofs.lemmas.Callers.{search_kept}
use Rattle.literal_examples.specs.WordList.{longest_of_words}
use Rattle.literal_examples.proofs.word_list.WordList.find_all.Goals as goal

pub returns : goal.returns
returns c =
    let text = c.args.text.now in
    let search = c.self.inside.search in
    subst (λ (words : List (List ℕ)). IfOk c.find_all.result
    (λ all. IsGreedy (longest_of_words words) false text 0 all.items)) c.self.view_is
    (subst (λ (s : SearchValue). IfOk c.find_all.result (λ all. IsGreedy s.query s.ignore_case text 0 all.items))
    (search_kept search c.self.invariant.0 c.self.invariant.1) c.find_all.ensures.greedy)
