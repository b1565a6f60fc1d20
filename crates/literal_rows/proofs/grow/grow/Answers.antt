use Rattle.std.proofs.lemmas.Grind.{common_steps}
use Rattle.std.proofs.Common.{◌≡◌, ◌*◌, ◌∙◌, ap, arith, length, refl, subst}
use Rattle.std.proofs.Math.Nat.{mul-le-mul_right}
use Rattle.literal_rows.specs.Inside.Construction.{texts_of, words_of}
use Rattle.literal_rows.specs.States.{IsRowsLength}
use Rattle.literal_rows.specs.Table.{Recognises, stride_of}
use Rattle.literal_rows.specs.declared.texts.Texts.{Texts}
use Rattle.literal_rows.proofs.lemmas.Construction.{recognises}
use Rattle.literal_rows.proofs.lemmas.States.{few_states, states_made, symbols_below}
use Rattle.literal_rows.proofs.grow.grow.Goals as goal

pub returns-clause-recognises : goal.returns-clause-recognises
returns-clause-recognises c =
    let g = c.loop-state.construction in
    let said = c.loop-state.invariant in
    let known = c.len.ensures ∙ g.states.ok.0 in
    let late = c.loop-state-test.false in
    let all : c.loop-state.state ≡ length g.states.items = omega (arith, known, late, said.states) in
    subst (λ (t : Texts). Recognises (texts_of t) t.width g.rows.items)
    (said.texts ∙ c.in_ok-construction.ensures.texts)
    (recognises g.texts g.states.items g.lists.items g.rows.items said.grows
    (said.filled ∙ ap (λ n. n * stride_of g.texts.width) all))

pub returns-clause-states : goal.returns-clause-states
unfolding recognises IsRowsLength
returns-clause-states c =
    let g = c.loop-state.construction in
    let t = g.texts in
    let said = c.loop-state.invariant in
    let known = c.len.ensures ∙ g.states.ok.0 in
    let late = c.loop-state-test.false in
    let all : c.loop-state.state ≡ length g.states.items = omega (arith, known, late, said.states) in
    let are = recognises t g.states.items g.lists.items g.rows.items said.grows
    (said.filled ∙ ap (λ n. n * stride_of t.width) all) in
    subst (λ (t : Texts). IsRowsLength (texts_of t) t.width (length g.rows.items))
    (said.texts ∙ c.in_ok-construction.ensures.texts) (
      length (words_of g),
      record {
        texts = words_of g;
        are_states = states_made (texts_of t) (words_of g) t.width _ said.words;
        count_is = refl;
        most = few_states (texts_of t) t.width
            (symbols_below t.classes.now t.width said.grows.texts.classes t.patterns.now) g.rows.items are;
      },
      are.full,
    )

pub returns-clause-few : goal.returns-clause-few
unfolding IsRowsLength
returns-clause-few c many =
    let rows = returns-clause-states c in
    grind (arith, common_steps, mul-le-mul_right)
