use Rattle.std.proofs.lemmas.Grind.{common_steps}
use Rattle.std.proofs.Common.{◌≡◌, ◌+◌, ◌≤◌, ◌∙◌, ◌++◌, ◌∷◌, [], ap, arith, length, take}
use Rattle.std.proofs.lemmas.List.{length-append}
use Rattle.std.specs.List.{slice_range}
use Rattle.literal_base.specs.Occurs.{pattern_at}
use Rattle.literal_rows.specs.Inside.Construction.{texts_of, words_of}
use Rattle.literal_rows.specs.Words.{word_of}
use Rattle.literal_rows.proofs.lemmas.Grown.{prefix_by_list, range_more}
use Rattle.literal_rows.proofs.lemmas.Construction.{ending_push, long_word, new_state, words_length}
use Rattle.literal_rows.proofs.grow.Construction.state_after.Goals as goal

long_is : (c : goal.After-len) → length (word_of (words_of c.args.self.now) c.args.state) ≡ c.index-2.result.now.depth
long_is c = grind (arith, common_steps, long_word)

prefix_is : (c : goal.After-len)
    → (c.index-2.result.now.depth + 1 ≤ length (pattern_at (texts_of c.args.self.now.texts) c.index.result.now))
    × (take (c.index-2.result.now.depth + 1) (pattern_at (texts_of c.args.self.now.texts) c.index.result.now)
    ≡ word_of (words_of c.args.self.now) c.args.state ++ c.args.class ∷ [])
prefix_is c =
    let g = c.args.self.now in
    let word = word_of (words_of g) c.args.state in
    let long = length-append word (c.args.class ∷ []) ∙ ap (λ n. n + 1) (long_is c) in
    grind (arith, range_more, prefix_by_list)

pub returns-clause-word : goal.returns-clause-word
returns-clause-word c = (prefix_is c).1

pub returns-clause-state : goal.returns-clause-state
returns-clause-state c =
    let g = c.args.self.now in
    let word = word_of (words_of g) c.args.state in
    let here = c.index-2.result.now in
    let shallow : here.depth ≤ c.args.state = grind arith in
    let all : c.len.result ≡ length g.lists.items = c.len.ensures ∙ g.lists.ok.0 in
    new_state (texts_of g.texts) (words_of g) g.texts.width g.lists.items (length g.states.items) _
    (word ++ c.args.class ∷ []) (words_length g.texts g.states.items) (prefix_is c).1 (omega arith)
    (omega (arith, shallow, c.requires.is_state)) (prefix_is c).0 (omega (arith, all, c.requires.some))
    (omega (arith, all))
    (ap (slice_range g.lists.items c.args.start) all ∙ c.requires.listed)
    (grind (arith, ending_push))
    c.requires.failure
