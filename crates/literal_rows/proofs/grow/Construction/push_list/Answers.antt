use Rattle.std.proofs.Common.{◌<◌, ◌∙◌, ◌++◌, ap, length, ℕ, sym, subst}
use Rattle.std.specs.List.{All}
use Rattle.literal_rows.specs.Inside.Construction.{IsConstruction, list_in, texts_of}
use Rattle.literal_rows.specs.declared.texts.State.{State}
use Rattle.literal_rows.proofs.lemmas.Grown.{list_by_list, whole_by_list}
use Rattle.literal_rows.proofs.lemmas.Construction.{after_is, grown_lists, list_at, long_word}
use Rattle.literal_rows.proofs.grow.Construction.push_list.Goals as goal

pub push_longer-requires-clause-after : goal.push_longer-requires-clause-after
push_longer-requires-clause-after c =
    let g = c.args.self.now in
    c.requires.after ∙ sym (after_is g.texts g.states.items g.lists.items g.rows.items c.requires.grows c.args.state
    c.index-here.result.now c.requires.is_state c.index-here.ensures)

pub returns-clause-grows : goal.returns-clause-grows
returns-clause-grows c =
    let g = c.args.self.now in
    let said = c.in_ok-whole.ensures in
    subst (λ l. IsConstruction g.texts g.states.items l g.rows.items) (sym said.lists)
    (grown_lists g.texts g.states.items g.lists.items g.rows.items _ c.requires.grows
    (subst (All (λ (i : ℕ). i < length g.texts.patterns.now)) said.lists said.numbers))

pub returns-clause-lists : goal.returns-clause-lists
returns-clause-lists c =
    let g = c.args.self.now in
    let here = c.index-here.result.now in
    let word =
    long_word g.texts g.states.items g.lists.items g.rows.items c.requires.grows c.args.state here
    c.requires.is_state
    ∙ ap (λ (s : State). s.depth) (sym c.index-here.ensures) in
    let listed = ap (list_in g.lists.items) c.index-here.ensures
    ∙ list_at g.texts g.states.items g.lists.items g.rows.items c.requires.grows c.args.state here c.requires.is_state
    in
    c.in_ok-whole.ensures.lists
    ∙ ap (λ l. g.lists.items ++ l)
    (list_by_list (texts_of g.texts) _ c.args.class here.depth _ word listed)

pub returns-clause-whole : goal.returns-clause-whole
returns-clause-whole c =
    let g = c.args.self.now in
    let here = c.index-here.result.now in
    let word =
    long_word g.texts g.states.items g.lists.items g.rows.items c.requires.grows c.args.state here
    c.requires.is_state
    ∙ ap (λ (s : State). s.depth) (sym c.index-here.ensures) in
    let listed = ap (list_in g.lists.items) c.index-here.ensures
    ∙ list_at g.texts g.states.items g.lists.items g.rows.items c.requires.grows c.args.state here c.requires.is_state
    in
    c.in_ok-whole.ensures.whole ∙ whole_by_list (texts_of g.texts) _ c.args.class here.depth _ word listed
