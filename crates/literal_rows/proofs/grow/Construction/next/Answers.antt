use Rattle.std.proofs.Common.{◌≡◌, ◌+◌, ◌*◌, ◌<◌, ◌∙◌, ◌++◌, ◌∷◌, [], arith, length, List, ℕ, refl, sym, subst, true}
use Rattle.std.proofs.lemmas.List.{length-append, nil_from_length}
use Rattle.literal_rows.specs.Inside.Grown.{AreWords, list_for}
use Rattle.literal_rows.specs.Inside.Construction.{AreWordsTo, IsConstruction, texts_of, word_after, word_in}
use Rattle.literal_rows.specs.Inside.Construction.{words_of}
use Rattle.literal_rows.specs.States.{AreStates}
use Rattle.literal_rows.specs.Table.{LeadsTo, stride_of}
use Rattle.literal_rows.specs.Words.{begins_one}
use Rattle.literal_rows.specs.declared.grow.Construction.{Construction}
use Rattle.literal_rows.specs.declared.texts.State.{State}
use Rattle.literal_rows.specs.declared.texts.Texts.{Texts}
use Rattle.literal_rows.proofs.lemmas.Behind.{live_begun, live_unbegun}
use Rattle.literal_rows.proofs.lemmas.Grown.{begun_by_length, unbegun_by_list}
use Rattle.literal_rows.proofs.lemmas.Construction.{words_length, words_same}
use Rattle.literal_rows.proofs.lemmas.States.{made_more, made_next, states_made}
use Rattle.literal_rows.proofs.grow.Construction.next.Goals as goal

-- where the lists got longer, a pattern begins with the word
begun_by : (g : Construction) (text longer : List ℕ) (len start : ℕ)
    → longer ≡ g.lists.items ++ list_for (texts_of g.texts) text → len ≡ length longer → start ≡ length g.lists.items
    → (len ≡ start → ⊥) → begins_one (texts_of g.texts) text ≡ true
begun_by g text longer len start lists now was isnt = grind (arith, length-append, begun_by_length)

-- the state at an index makes a word
made : (g : Construction) (state class : ℕ) → IsConstruction g.texts g.states.items g.lists.items g.rows.items
    → AreWordsTo g (state * stride_of g.texts.width + class)
    → state < length g.states.items → class < g.texts.width
    → begins_one (texts_of g.texts) (word_after g state class) ≡ true
    → AreWords (texts_of g.texts) (words_of g ++ word_after g state class ∷ []) g.texts.width
    (state * stride_of g.texts.width + class + 1)
made g state class grows words is_state is_class begun =
    made_next (texts_of g.texts) (words_of g) g.texts.width (state * stride_of g.texts.width + class) words state class
    (omega (arith, is_state, words_length g.texts g.states.items)) is_class refl begun

-- the words with one more are the same, of texts and states that stay the same
words_with : (g g' : Construction) (next : State) (state class : ℕ) → g'.texts ≡ g.texts → g'.states ≡ g.states
    → word_in (texts_of g'.texts) next ≡ word_after g' state class
    → words_of g' ++ word_in (texts_of g'.texts) next ∷ [] ≡ words_of g ++ word_after g state class ∷ []
words_with g g' next state class texts states is = grind (arith, words_same)

states_same : (t t' : Texts) (words words' : List (List ℕ)) → t' ≡ t → words' ≡ words
    → AreStates (texts_of t) words → AreStates (texts_of t') words'
states_same t t' words words' texts same are =
    subst (AreStates (texts_of t')) (sym same) (subst (λ u. AreStates (texts_of u) words) (sym texts) are)

pub add_state-requires-clause-different : goal.add_state-requires-clause-different
add_state-requires-clause-different c =
    let g = c.args.self.now in
    let g' = c.push_list.new.self in
    let said = c.in_ok-whole.ensures in
    let text = word_after g c.args.state c.args.class in
    let begun = begun_by g text g'.lists.items c.len.result c.len-start.result said.lists
    (c.len.ensures ∙ g'.lists.ok.0) (c.len-start.ensures ∙ g.lists.ok.0) c.if-len-start.false in
    states_same g.texts g'.texts (words_of g ++ text ∷ []) _ said.same.0
    (words_with g g' c.state_after-next.result c.args.state c.args.class said.same.0 said.same.1
    c.state_after-next.ensures.word)
    (states_made (texts_of g.texts) (words_of g ++ text ∷ []) g.texts.width
    (c.args.state * stride_of g.texts.width + c.args.class + 1)
    (made g c.args.state c.args.class c.requires.grows c.requires.words c.requires.is_state c.requires.is_class begun))

pub returns-clause-words : goal.returns-clause-words
returns-clause-words c =
    let g = c.args.self.now in
    let g' = c.push_list.new.self in
    let said = c.in_ok-whole.ensures in
    let begun = begun_by g (word_after g c.args.state c.args.class) g'.lists.items c.len.result c.len-start.result
    said.lists (c.len.ensures ∙ g'.lists.ok.0) (c.len-start.ensures ∙ g.lists.ok.0) c.if-len-start.false in
    subst (λ words. AreWords (texts_of g.texts) words g.texts.width
    (c.args.state * stride_of g.texts.width + c.args.class + 1))
    (sym (c.in_ok-code.ensures.words ∙ words_with g g' c.state_after-next.result c.args.state c.args.class
    said.same.0 said.same.1 c.state_after-next.ensures.word))
    (made g c.args.state c.args.class c.requires.grows c.requires.words c.requires.is_state c.requires.is_class begun)

pub returns-then-len-start-clause-words : goal.returns-then-len-start-clause-words
returns-then-len-start-clause-words c =
    let g = c.args.self.now in
    let said = c.in_ok-whole.ensures in
    subst (λ words. AreWords (texts_of g.texts) words g.texts.width
    (c.args.state * stride_of g.texts.width + c.args.class + 1))
    (sym (words_same g c.push_list.new.self said.same.0 said.same.1))
    (made_more (texts_of g.texts) (words_of g) g.texts.width _ c.requires.words _ (omega arith))

pub returns-then-len-start-clause-leads : goal.returns-then-len-start-clause-leads
returns-then-len-start-clause-leads c =
    grind (arith, length-append, nil_from_length, unbegun_by_list, words_same, live_unbegun)

-- a number leads to a word, of texts that stay the same
leads_same : (t t' : Texts) (words : List (List ℕ)) (code : ℕ) (word word' : List ℕ) → t' ≡ t → word' ≡ word
    → LeadsTo (texts_of t') words t'.width code word' → LeadsTo (texts_of t) words t.width code word
leads_same t t' words code word word' texts same leads = grind arith

pub returns-clause-leads : goal.returns-clause-leads
returns-clause-leads c = grind (arith, begun_by, live_begun, leads_same, words_same)
