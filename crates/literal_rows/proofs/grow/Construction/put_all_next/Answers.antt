use Rattle.std.proofs.Common.{◌+◌, ◌*◌, ◌<◌, ◌≤◌, ◌∙◌, ap, arith, length, refl, sym}
use Rattle.literal_rows.specs.Inside.Grown.{symbols_after}
use Rattle.literal_rows.specs.Inside.Construction.{texts_of, words_of}
use Rattle.literal_rows.specs.Table.{stride_of}
use Rattle.literal_rows.specs.Words.{word_of}
use Rattle.literal_rows.specs.declared.texts.Texts.{Texts}
use Rattle.literal_rows.proofs.lemmas.Construction.{longer_same, passed_over, words_length}
use Rattle.literal_rows.proofs.lemmas.States.{made_more}
use Rattle.literal_rows.proofs.grow.Construction.put_all_next.Goals as goal

pub loop-class-init : goal.loop-class-init
loop-class-init c =
    let g = c.args.self.now in
    let said = c.smallest_from-class.ensures in
    record {
      grows = c.requires.grows;
      few = said.below;
      long = grind arith;
      words = made_more (texts_of g.texts) (words_of g) g.texts.width _ c.requires.words _ (omega arith);
      on = passed_over g c.args.state 0 c.smallest_from-class.result c.args.row.now c.args.classes_after.now
          c.requires.after c.requires.grows.texts.classes.few said.none (λ symbol before. absurd (omega arith))
          c.requires.back;
      back = λ symbol from is_symbol. c.requires.back symbol (omega arith) is_symbol;
      kept = longer_same (words_of g);
      texts = refl;
      rows = refl;
    }

pub loop-class-preserved : goal.loop-class-preserved
loop-class-preserved c =
    let g = c.put_next.new.self in
    let state = c.args.state in
    let so_far = c.loop-class.invariant in
    let put = c.in_ok-put_next.ensures in
    let said = c.smallest_from-class-in-loop-class.ensures in
    let before = c.loop-class-test.true in
    let same = ap (λ (t : Texts). state * stride_of t.width) so_far.texts in
    let later : c.loop-class.class + 1 ≤ c.smallest_from-class-in-loop-class.result = said.from (omega arith) in
    let texts = put.same.0 ∙ so_far.texts in
    let first = c.args.self.now in
    let is_state : state < length (words_of first) =
    omega (arith, c.requires.is_state, words_length first.texts first.states.items) in
    let word = put.kept.same state (omega (arith, so_far.kept.more, is_state)) ∙ so_far.kept.same state is_state in
    let after = c.requires.after
    ∙ (ap (symbols_after (texts_of first.texts)) (sym word)
    ∙ ap (λ (t : Texts). symbols_after (texts_of t) (word_of (words_of g) state)) (sym texts)) in
    record {
      grows = put.grows;
      few = said.below;
      long = grind arith;
      words = made_more (texts_of g.texts) (words_of g) g.texts.width _ put.words _ (omega (arith, same, later));
      on = passed_over g state (c.loop-class.class + 1) c.smallest_from-class-in-loop-class.result c.put_next.new.row
          c.args.classes_after.now after put.grows.texts.classes.few said.none put.on put.back;
      back = λ symbol from is_symbol. put.back symbol (omega (arith, later)) is_symbol;
      kept = grind arith;
      texts = texts;
      rows = put.same.1 ∙ so_far.rows;
    }

pub returns-clause-words : goal.returns-clause-words
returns-clause-words c =
    let g = c.loop-class.self in
    let so_far = c.loop-class.invariant in
    made_more (texts_of g.texts) (words_of g) g.texts.width _ so_far.words _ (omega (arith, so_far.few))
